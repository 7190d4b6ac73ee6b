use Rattle.std.proofs.Common.{◌-◌, None, Some, refl, arith}
use Rattle.plan_moves.proofs.Turns.{cleaned_report, job_report}
use Rattle.plan_moves.proofs.next_report.report_of.Goals as goal

pub returns-then-turn-jobs : goal.returns-then-turn-jobs
returns-then-turn-jobs g c =
    let count = rw c.work_cell-cell.ensures.plan at c.job_count-jobs.ensures.count in
    cleaned_report _ 0 _ (c.args.soonest.turn - c.job_count-jobs.result) c.args.soonest c.shaped-plan.ensures.control.sound (omega (arith, c.if-turn-jobs.true, count)) c.requires

pub returns-in-Some : goal.returns-in-Some
returns-in-Some g c =
    let count = rw c.work_cell-cell.ensures.plan at c.job_count-jobs.ensures.count in
    job_report _ 0 _ c.args.soonest (Some c.in-Some.machine) _ (omega (arith, c.if-turn-jobs.false, count)) (rw (c.work_cell-cell.ensures.plan, c.work_cell-cell.ensures.cell) at c.in-Some.ensures) c.requires refl

pub returns-in-None : goal.returns-in-None
returns-in-None g c =
    let count = rw c.work_cell-cell.ensures.plan at c.job_count-jobs.ensures.count in
    job_report _ 0 _ c.args.soonest None _ (omega (arith, c.if-turn-jobs.false, count)) (rw (c.work_cell-cell.ensures.plan, c.work_cell-cell.ensures.cell) at c.in-None.ensures) c.requires refl
