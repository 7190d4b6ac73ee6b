use Rattle.std.proofs.Common.{rules}
use Rattle.run_log.proofs.run_log.RunLog.note_report.Goals as goal

pub returns-then-len-capacity-clause-full : goal.returns-then-len-capacity-clause-full
returns-then-len-capacity-clause-full c = search rules depth 2
