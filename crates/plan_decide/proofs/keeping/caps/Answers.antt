use Rattle.std.proofs.Common.{arith}
use Rattle.std.proofs.lemmas.Grind.{common_steps}
use Rattle.plan_decide.proofs.keeping.caps.Goals as goal

pub loop-limit-preserved : goal.loop-limit-preserved
loop-limit-preserved c = grind (arith, common_steps)
