use Rattle.std.proofs.Common.{rules}
use Rattle.run_journal.proofs.log_run.is_of_run.Goals as goal

pub returns-then-is_some : goal.returns-then-is_some
returns-then-is_some c = search rules
