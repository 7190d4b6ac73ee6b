use Rattle.std.proofs.Common.{arith}
use Rattle.std.proofs.lemmas.Grind.{common_steps}
use Rattle.shop_base.proofs.shaped.Shaped.budget_of.Goals as goal

pub returns-clause-budget : goal.returns-clause-budget
returns-clause-budget c = grind (arith, common_steps)
