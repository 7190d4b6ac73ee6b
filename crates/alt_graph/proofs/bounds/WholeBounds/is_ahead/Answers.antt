use Rattle.std.proofs.Common.{rules}
use Rattle.alt_graph.proofs.bounds.WholeBounds.is_ahead.Goals as goal

pub returns : goal.returns
returns c = search rules depth 2
