use Rattle.std.proofs.Common.{rules}
use Rattle.command_answers.proofs.digests.digits_answer.Goals as goal

pub returns : goal.returns
returns c = search rules depth 2
