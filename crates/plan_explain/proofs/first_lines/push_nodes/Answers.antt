use Rattle.std.proofs.{Common.arith, lemmas.Grind.common_steps}
use Rattle.plan_explain.proofs.first_lines.push_nodes.Goals as goal

pub loop-node-preserved : goal.loop-node-preserved
loop-node-preserved c = grind (arith, common_steps)
