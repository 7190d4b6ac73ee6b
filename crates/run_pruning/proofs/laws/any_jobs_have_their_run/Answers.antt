use Rattle.run_pruning.proofs.PrunedRuns.{any_jobs_have_their_run-holds}
use Rattle.run_pruning.proofs.laws.any_jobs_have_their_run.Goals as goal

pub returns : goal.returns
returns c = any_jobs_have_their_run-holds
