use Rattle.std.proofs.Common.{arith}
use Rattle.std.proofs.lemmas.Grind.{common_steps}
use Rattle.plan_moves.proofs.line.push_move_lines.Goals as goal

pub loop-order-preserved : goal.loop-order-preserved
loop-order-preserved c = grind (arith, common_steps)
