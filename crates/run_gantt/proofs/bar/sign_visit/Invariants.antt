use Rattle.std.proofs.Common.{◌≡◌, ℕ, ◌*◌, ◌-◌, ◌<◌, ◌≤◌, get_or, None}
use Rattle.std.specs.Option.{option_or}
use Rattle.run_gantt.specs.GanttText.{sign_of}
use Rattle.run_gantt.proofs.bar.sign_visit.Given as goal

-- the columns below this one are done, the others are as they were, and at them the job has entered
abbrev pub invariant-loop-column : goal.invariant-loop-column
invariant-loop-column l = record {
  entered : l.visit.enter ≤ l.column * l.scale;
  done : (c : ℕ) → c < l.column → c < 60 → get_or l.bar c None ≡ option_or (get_or l.initial.bar c None) (sign_of (c * l.scale) l.visit);
  others : (c : ℕ) → l.column ≤ c → get_or l.bar c None ≡ get_or l.initial.bar c None;
}

abbrev pub decreases-loop-column : goal.decreases-loop-column
decreases-loop-column l = 60 - l.column
