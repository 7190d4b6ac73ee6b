use Rattle.run_pruning.proofs.PrunedCycles.{no_cycle_comes_without_jobs-holds, no_cycle_comes_without_spare-holds}
use Rattle.run_pruning.proofs.laws.no_cycle_comes_without_them.Goals as goal

pub returns-clause-jobs : goal.returns-clause-jobs
returns-clause-jobs c = no_cycle_comes_without_jobs-holds

pub returns-clause-machine : goal.returns-clause-machine
returns-clause-machine c = no_cycle_comes_without_spare-holds
