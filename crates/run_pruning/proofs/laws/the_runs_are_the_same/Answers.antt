use Rattle.run_pruning.proofs.WithoutSpare.{the_runs_are_the_same-holds}
use Rattle.run_pruning.proofs.laws.the_runs_are_the_same.Goals as goal

pub returns : goal.returns
returns c = the_runs_are_the_same-holds
