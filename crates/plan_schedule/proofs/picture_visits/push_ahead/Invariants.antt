use Rattle.std.proofs.Common.{◌≡◌, ◌++◌}
use Rattle.plan_schedule.specs.{Calendars.at_of, DrawnVisits.visits_ahead}
use Rattle.plan_schedule.proofs.picture_visits.push_ahead.Given as goal

abbrev pub invariant-loop-job : goal.invariant-loop-job
invariant-loop-job g l = l.visits.items ≡ l.initial.visits.items ++ visits_ahead l.calendar.plan l.calendar.cell (at_of l.calendar) l.job
