use Rattle.cell_tables.proofs.CleanedSteps.{cleaned_job, cleaned_step, cleaned_entered, latest_is}
use Rattle.cell_tables.proofs.work_cell.WorkCell.cleaned_after_step.Goals as goal

pub latest_step_on-requires : goal.latest_step_on-requires
latest_step_on-requires g c = cleaned_job _ _ _ _ c.shaped-plan.ensures.well_shaped c.shaped-plan.ensures.sound c.in_ok-job.ensures

pub returns-in_err-step : goal.returns-in_err-step
returns-in_err-step g c =
    let (k, is) = cleaned_step c.args.self.now.plan c.args.self.now.cell c.args.machine c.in_ok-job.job c.shaped-plan.ensures.well_shaped c.shaped-plan.ensures.sound c.in_ok-job.ensures in
    absurd (c.in_err-step.ensures k (cleaned_entered _ _ _ _ c.shaped-plan.ensures.well_shaped c.shaped-plan.ensures.sound c.in_ok-job.ensures k is) is.last_in.visits)

pub returns : goal.returns
returns g c = latest_is _ _ _ _ c.shaped-plan.ensures.well_shaped c.shaped-plan.ensures.sound c.in_ok-job.ensures c.in_ok-step.step c.in_ok-step.ensures
