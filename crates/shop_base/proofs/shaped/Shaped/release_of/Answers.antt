use Rattle.std.proofs.Common.{arith}
use Rattle.std.proofs.lemmas.Grind.{common_steps}
use Rattle.shop_base.proofs.shaped.Shaped.release_of.Goals as goal

pub returns-clause-release : goal.returns-clause-release
returns-clause-release c = grind (arith, common_steps)
