use Rattle.std.proofs.Common.{rules}
use Rattle.cell_drive.proofs.recovery.recover_run.Goals as goal

pub invariant_of-result : goal.invariant_of-result
invariant_of-result c = search rules
