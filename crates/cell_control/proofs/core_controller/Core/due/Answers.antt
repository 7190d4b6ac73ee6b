use Rattle.std.proofs.Common.{arith, subst}
use Rattle.cell_control.specs.{Control.Control, Readings.IsDueOf}
use Rattle.cell_control.proofs.Reading.{key_due}
use Rattle.cell_control.proofs.core_controller.Core.due.Goals as goal

pub returns-then-job-job_count : goal.returns-then-job-job_count
returns-then-job-job_count g c =
    subst (λ (v : Control). IsDueOf v.planned v.cell c.args.job c.get.result) c.self.view_is
    (key_due _ _ _ c.args.job c.get.result c.self.invariant.due_moments (omega (arith, c.if-job-job_count.true, c.job_count.ensures.count)) c.get.ensures)
