use Rattle.std.proofs.Common.{arith}
use Rattle.std.proofs.lemmas.Grind.{common_steps}
use Rattle.command_answers.proofs.decision_lines.push_never_lines.Goals as goal

pub loop-several-preserved : goal.loop-several-preserved
loop-several-preserved c = grind (arith, common_steps)
