use Rattle.std.proofs.Common.{rules}
use Rattle.event_lines.proofs.run_digits.plan_line.Goals as goal

pub returns : goal.returns
returns c = search rules depth 2
