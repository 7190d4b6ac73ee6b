use Rattle.std.proofs.Common.{rules}
use Rattle.command_answers.proofs.lines.log_refused.Goals as goal

pub returns : goal.returns
returns c = search rules depth 2
