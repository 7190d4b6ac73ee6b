use Rattle.std.proofs.Common.{rules}
use Rattle.cell_control.proofs.due_moments.note_jobs.Goals as goal

pub loop-job-init : goal.loop-job-init
loop-job-init g c = search rules
