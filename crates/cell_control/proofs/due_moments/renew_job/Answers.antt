use Rattle.std.proofs.Common.{rules}
use Rattle.cell_control.proofs.due_moments.renew_job.Goals as goal

pub returns : goal.returns
returns g c = search rules
