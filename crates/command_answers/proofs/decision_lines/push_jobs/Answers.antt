use Rattle.std.proofs.Common.{arith}
use Rattle.std.proofs.lemmas.Grind.{common_steps}
use Rattle.command_answers.proofs.decision_lines.push_jobs.Goals as goal

pub loop-job-preserved : goal.loop-job-preserved
loop-job-preserved c = grind (arith, common_steps)
