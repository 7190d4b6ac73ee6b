use Rattle.std.proofs.Common.{rules}
use Rattle.run_log.proofs.run_log.RunLog.for_run.Goals as goal

pub returns : goal.returns
returns g c = search rules depth 2
