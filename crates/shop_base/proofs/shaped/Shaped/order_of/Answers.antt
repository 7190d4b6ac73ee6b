use Rattle.std.proofs.Common.{arith}
use Rattle.std.proofs.lemmas.Grind.{common_steps}
use Rattle.shop_base.proofs.shaped.Shaped.order_of.Goals as goal

pub returns-clause-order : goal.returns-clause-order
returns-clause-order c = grind (arith, common_steps)
