use Rattle.std.proofs.Common.{rules}
use Rattle.shop_base.proofs.shaped.Shaped.clean_of.Goals as goal

pub returns-in-None : goal.returns-in-None
returns-in-None c = search rules depth 2
