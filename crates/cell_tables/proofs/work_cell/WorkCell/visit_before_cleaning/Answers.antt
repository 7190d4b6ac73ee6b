use Rattle.std.proofs.Common.{◌≡◌, ℕ, true, Option, ap}
use Rattle.cell_tables.proofs.CleanedSteps.{cleaned_job, shown_latest}
use Rattle.cell_tables.proofs.work_cell.WorkCell.visit_before_cleaning.Goals as goal

pub latest_step_on-step-requires : goal.latest_step_on-step-requires
latest_step_on-step-requires g c = cleaned_job _ _ _ _ c.shaped-plan.ensures.well_shaped c.shaped-plan.ensures.sound c.requires

pub returns-then-recirculates : goal.returns-then-recirculates
returns-then-recirculates g c =
    let again : c.args.self.now.plan.shop.recirculates ≡ true = cc (c.if-recirculates.true, c.recirculates.ensures, c.shop.ensures.same, c.shaped-plan.ensures.plan) in
    rw again (ap (λ (step : Option ℕ). record { job = c.args.job; step = step })
    (shown_latest _ _ _ _ c.shaped-plan.ensures.well_shaped c.shaped-plan.ensures.sound c.requires _ c.latest_step_on-step.ensures))
