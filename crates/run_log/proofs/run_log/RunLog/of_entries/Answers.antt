use Rattle.std.proofs.Common.{rules}
use Rattle.run_log.proofs.run_log.RunLog.of_entries.Goals as goal

pub returns : goal.returns
returns c = search rules
