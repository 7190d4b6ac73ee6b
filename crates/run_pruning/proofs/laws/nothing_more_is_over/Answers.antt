use Rattle.run_pruning.proofs.NothingMore.{nothing_more_is_over-holds}
use Rattle.run_pruning.proofs.laws.nothing_more_is_over.Goals as goal

pub returns : goal.returns
returns c = nothing_more_is_over-holds
