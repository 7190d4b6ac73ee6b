use Rattle.run_pruning.proofs.LeftWithoutSpare.{nothing_is_over_without_spare-holds}
use Rattle.run_pruning.proofs.laws.nothing_is_over_without_spare.Goals as goal

pub returns : goal.returns
returns c = nothing_is_over_without_spare-holds
