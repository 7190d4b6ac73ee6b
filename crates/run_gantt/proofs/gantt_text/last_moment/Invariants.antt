use Rattle.std.proofs.Common.{◌≡◌, max, drop}
use Rattle.run_gantt.specs.Visits.{last_entry_moment}
use Rattle.run_gantt.proofs.gantt_text.last_moment.Given as goal

-- the greatest moment so far, and of the rest, is that of all
abbrev pub invariant-loop-entry : goal.invariant-loop-entry
invariant-loop-entry l = max l.last (last_entry_moment (drop l.entry-index l.entries)) ≡ last_entry_moment l.entries
