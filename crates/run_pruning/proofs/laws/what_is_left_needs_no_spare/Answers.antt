use Rattle.run_pruning.proofs.LeftWithoutSpare.{what_is_left_needs_no_spare-holds}
use Rattle.run_pruning.proofs.laws.what_is_left_needs_no_spare.Goals as goal

pub returns : goal.returns
returns c = what_is_left_needs_no_spare-holds
