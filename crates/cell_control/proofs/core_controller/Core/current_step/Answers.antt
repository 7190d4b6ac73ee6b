use Rattle.std.proofs.Common.{inr, ap, arith}
use Rattle.shop_base.specs.Plan.{jobs}
use Rattle.cell_control.specs.Control.{Control}
use Rattle.cell_control.proofs.Seats.{past_gone}
use Rattle.cell_control.proofs.core_controller.Core.current_step.Goals as goal

pub returns-else-job-job_count : goal.returns-else-job-job_count
returns-else-job-job_count g c =
    inr (past_gone _ _ _ c.shaped-plan.ensures.control.sound
    (omega (arith, c.if-job-job_count.false, c.job_count.ensures.count, ap (λ (v : Control). jobs v.planned) c.self.view_is)))
