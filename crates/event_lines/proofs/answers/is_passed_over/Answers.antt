use Rattle.std.proofs.Common.{rules}
use Rattle.event_lines.proofs.answers.is_passed_over.Goals as goal

pub returns-then-starts_with-3 : goal.returns-then-starts_with-3
returns-then-starts_with-3 c = search rules depth 2
