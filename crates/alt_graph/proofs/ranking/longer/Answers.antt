use Rattle.std.proofs.Common.{rules}
use Rattle.alt_graph.proofs.ranking.longer.Goals as goal

pub returns-then-one-other : goal.returns-then-one-other
returns-then-one-other c = search rules depth 2

pub returns-else-one-other : goal.returns-else-one-other
returns-else-one-other c = search rules depth 2
