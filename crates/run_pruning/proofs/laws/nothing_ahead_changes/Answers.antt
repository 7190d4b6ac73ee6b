use Rattle.run_pruning.proofs.RestSame.{nothing_ahead_changes-holds}
use Rattle.run_pruning.proofs.laws.nothing_ahead_changes.Goals as goal

pub returns : goal.returns
returns c = nothing_ahead_changes-holds
