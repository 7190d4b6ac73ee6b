use Rattle.run_pruning.proofs.WhatIsLeft.{what_is_left_is_a_run-holds}
use Rattle.run_pruning.proofs.laws.what_is_left_is_a_run.Goals as goal

pub returns : goal.returns
returns c = what_is_left_is_a_run-holds
