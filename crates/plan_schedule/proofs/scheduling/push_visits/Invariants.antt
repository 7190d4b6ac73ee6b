use Rattle.plan_explain.specs.Added.{Adds}
use Rattle.plan_schedule.specs.{Calendars.{at_of, due_at}, Schedules.AreVisitsFrom}
use Rattle.plan_schedule.proofs.scheduling.push_visits.Given as goal

-- the lines of the visits looked at are written
abbrev pub invariant-loop-place : goal.invariant-loop-place
invariant-loop-place g l = Adds (AreVisitsFrom l.names l.calendar.plan (at_of l.calendar) (due_at l.calendar) l.job l.first l.place) l.initial.text.items l.text.items
