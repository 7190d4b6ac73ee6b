use Rattle.run_pruning.proofs.NarrowedRests.{the_rests_are_the_same-holds}
use Rattle.run_pruning.proofs.laws.the_rests_are_the_same.Goals as goal

pub returns : goal.returns
returns c = the_rests_are_the_same-holds
