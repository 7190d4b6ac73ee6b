use Rattle.plan_explain.specs.{Added.Adds, Parts.AreTextsFrom}
use Rattle.plan_schedule.specs.Calendars.{IsCleanedTextBy}
use Rattle.plan_schedule.proofs.scheduling.push_cleanings.Given as goal

-- the lines of the machines looked at are written
abbrev pub invariant-loop-machine : goal.invariant-loop-machine
invariant-loop-machine g l = Adds (AreTextsFrom (IsCleanedTextBy l.names l.calendar) 0 l.machine) l.initial.text.items l.text.items
