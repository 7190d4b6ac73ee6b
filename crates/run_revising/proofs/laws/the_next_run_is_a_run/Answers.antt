use Rattle.run_revising.proofs.NextRunsGoOn.{next_run_good}
use Rattle.run_revising.proofs.laws.the_next_run_is_a_run.Goals as goal

pub returns : goal.returns
returns c = next_run_good
