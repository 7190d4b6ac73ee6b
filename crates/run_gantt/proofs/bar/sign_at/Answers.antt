use Rattle.std.proofs.Common.{rules}
use Rattle.run_gantt.proofs.bar.sign_at.Goals as goal

pub returns-else-is_before : goal.returns-else-is_before
returns-else-is_before c = search rules depth 2
