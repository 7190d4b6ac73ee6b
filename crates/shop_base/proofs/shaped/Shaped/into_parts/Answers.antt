use Rattle.std.proofs.Common.{rules}
use Rattle.shop_base.proofs.shaped.Shaped.into_parts.Goals as goal

pub returns : goal.returns
returns c = search rules depth 2
