use Rattle.run_journal.proofs.LeftEvents.{left_log}
use Rattle.run_journal.proofs.laws.a_crash_leaves_a_log.Goals as goal

pub returns : goal.returns
returns c = left_log
