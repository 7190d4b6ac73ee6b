use Rattle.std.proofs.Common.{◌≡◌, ◌++◌, map, drop}
use Rattle.plan_schedule.specs.{Calendars.at_of, DrawnVisits.ended_visit}
use Rattle.plan_schedule.proofs.picture_visits.push_drawn.Given as goal

-- those added, and the ones that are left, are all
abbrev pub invariant-loop-visit : goal.invariant-loop-visit
invariant-loop-visit g l =
    let k = l.calendar in
    let end = ended_visit k.plan k.cell k.present (at_of k) in
    l.visits.items ++ map end (drop l.visit-index l.drawn) ≡ l.initial.visits.items ++ map end l.drawn
