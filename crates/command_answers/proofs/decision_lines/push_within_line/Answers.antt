use Rattle.std.proofs.Common.{rules}
use Rattle.command_answers.proofs.decision_lines.push_within_line.Goals as goal

pub returns-then-within : goal.returns-then-within
returns-then-within c = search rules depth 2
