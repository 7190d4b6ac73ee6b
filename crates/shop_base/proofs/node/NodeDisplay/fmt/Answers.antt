use Rattle.std.proofs.Common.{rules}
use Rattle.shop_base.proofs.node.NodeDisplay.fmt.Goals as goal

pub returns-clause-writes : goal.returns-clause-writes
returns-clause-writes g c = search rules depth 2
