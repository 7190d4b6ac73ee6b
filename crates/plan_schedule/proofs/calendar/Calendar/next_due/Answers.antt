use Rattle.std.proofs.Common.{ℕ, ◌<◌, length, sym, subst, inr}
use Rattle.shop_base.specs.{Plan.{PlannedShop, machines, Stands}, Cell.entries}
use Rattle.shop_base.proofs.Visits.{visits_job}
use Rattle.plan_schedule.proofs.NextPlace.{next_ahead, next_stands}
use Rattle.plan_schedule.proofs.calendar.Calendar.next_due.Goals as goal

-- the next place of the machine's order has a visit that is ahead
pub next_place_on-place-requires-clause-visits : goal.next_place_on-place-requires-clause-visits
next_place_on-place-requires-clause-visits g c =
    let p = c.cell-cell.result.now.plan in
    let m = c.args.machine in
    let inside : m < machines p = subst (λ (q : PlannedShop). m < machines q) (sym c.cell-cell.ensures.plan) c.requires in
    let (k, ahead, stands) = next_ahead p c.cell-cell.result.now.cell m c.in-Some.job c.shaped-plan.ensures.well_shaped c.shaped-plan.ensures.sound inside c.in-Some.ensures.0 c.in-Some.ensures.1 in
    (k, ahead, stands.visits)

pub next_place_on-place-requires-clause-job : goal.next_place_on-place-requires-clause-job
next_place_on-place-requires-clause-job g c =
    let (k, ahead, visits) = next_place_on-place-requires-clause-visits g c in
    visits_job c.cell-cell.result.now.plan c.in-Some.job k c.args.machine visits

pub returns-in-Some : goal.returns-in-Some
returns-in-Some g c =
    let p = c.cell-cell.result.now.plan in
    let m = c.args.machine in
    let inside : m < machines p = subst (λ (q : PlannedShop). m < machines q) (sym c.cell-cell.ensures.plan) c.requires in
    let is = next_ahead p c.cell-cell.result.now.cell m c.in-Some.job c.shaped-plan.ensures.well_shaped c.shaped-plan.ensures.sound inside c.in-Some.ensures.0 c.in-Some.ensures.1 in
    let stands : Stands p m (length (entries c.cell-cell.result.now.cell m)) c.in-Some.job c.next_place_on-place.result =
    next_stands p c.cell-cell.result.now.cell m c.in-Some.job is.0 c.next_place_on-place.result c.shaped-plan.ensures.well_shaped c.shaped-plan.ensures.sound is.1 is.2
    c.next_place_on-place.ensures.ahead c.next_place_on-place.ensures.visits c.next_place_on-place.ensures.next in
    inr (c.in-Some.job, c.next_place_on-place.result, rw (c.cell-cell.ensures.plan, c.cell-cell.ensures.cell) at stands, c.due.ensures)
