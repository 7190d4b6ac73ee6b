use Rattle.plan_explain.specs.{Added.Adds, Parts.AreTextsFrom}
use Rattle.plan_schedule.specs.Calendars.{IsJobTextBy}
use Rattle.plan_schedule.proofs.scheduling.push_jobs.Given as goal

-- the lines of the jobs looked at are written
abbrev pub invariant-loop-job : goal.invariant-loop-job
invariant-loop-job g l = Adds (AreTextsFrom (IsJobTextBy l.names l.calendar) 0 l.job) l.initial.text.items l.text.items
