use Rattle.std.proofs.Common.{◌≡◌, ℕ, ◌+◌, ◌-◌, MatchOption, arith, subst}
use Rattle.shop_base.specs.Plan.{jobs}
use Rattle.plan_moves.specs.Soonest.{IsDueAt, IsDueOnlyAt}
use Rattle.plan_moves.proofs.Turns.{job_turn, machine_turn}
use Rattle.plan_moves.proofs.next_report.due_at.Goals as goal

pub returns-then-turn-jobs : goal.returns-then-turn-jobs
returns-then-turn-jobs g c =
    let count = rw c.shaped.ensures.plan at c.job_count-jobs.ensures.count in
    job_turn _ 0 _ c.args.turn c.due.result (omega (arith, c.if-turn-jobs.true, count)) c.due.ensures

pub returns-else-turn-jobs : goal.returns-else-turn-jobs
returns-else-turn-jobs g c =
    let p = c.args.controller.now.planned in
    let cell = c.args.controller.now.cell in
    let count = rw c.shaped.ensures.plan at c.job_count-jobs.ensures.count in
    let there : jobs p + (c.args.turn - c.job_count-jobs.result) ≡ c.args.turn = omega (arith, c.if-turn-jobs.false, count) in
    subst (λ k. MatchOption c.clean_due.result ((due : ℕ) → IsDueAt p cell k due → ⊥) (IsDueOnlyAt p cell k)) there
    (machine_turn p 0 cell (c.args.turn - c.job_count-jobs.result) c.clean_due.result c.shaped.ensures.control.sound c.clean_due.ensures)
