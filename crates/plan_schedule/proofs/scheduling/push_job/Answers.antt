use Rattle.std.proofs.Common.{◌≡◌, ◌+◌, ◌-◌, ℕ, List, codes, inr, OnOk, arith, sym, subst, ◌∙◌}
use Rattle.shop_base.specs.Plan.{steps}
use Rattle.plan_explain.specs.Added.{Adds}
use Rattle.plan_explain.proofs.Texts.{both_added, on_ok_each}
use Rattle.plan_schedule.specs.{Calendars.{at_of, due_at, IsVisitTextBy}, Schedules.AreVisitsFrom, ScheduleLines.entered_of}
use Rattle.plan_schedule.proofs.scheduling.push_job.Goals as goal

pub returns : goal.returns
returns g c =
    let k = c.args.calendar.now in
    let j = c.args.job in
    let place : ℕ = c.state-state.result.made - 1 in
    let more : c.state-state.result.made ≡ place + 1 = omega (arith, c.if-state-eq0.false) in
    let Ahead : ℕ → List ℕ → Type 0 = λ n. AreVisitsFrom c.args.names.now k.plan (at_of k) (due_at k) j n (steps k.plan j) in
    on_ok_each c.push_visits-2.result _ _
    (λ text both. inr (inr (place, omega (arith, c.steps.ensures, c.if-steps-state.false, more), sym c.state-state.ensures.made ∙ more, both)))
    (both_added (IsVisitTextBy c.args.names.now k (codes " since ") (entered_of k.plan k.cell k.present (at_of k) (due_at k) j place) place) (Ahead (place + 1)) c.push_visits-2.result _ _ _
    (rw c.entered-here.ensures at c.in_ok-push_visit.ensures)
    (subst (λ (n : ℕ). OnOk c.push_visits-2.result (Adds (Ahead n) c.push_visit.new.text.items c.push_visits-2.new.text.items)) more c.push_visits-2.ensures))
