use Rattle.std.proofs.Common.{rules}
use Rattle.command_answers.proofs.rest_improves.judged_answer.Goals as goal

pub returns-in-Refused-Late : goal.returns-in-Refused-Late
returns-in-Refused-Late c = search rules depth 2
