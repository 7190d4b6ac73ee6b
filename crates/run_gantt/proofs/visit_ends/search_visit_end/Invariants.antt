use Rattle.std.proofs.Common.{◌≡◌, drop}
use Rattle.std.specs.Option.{option_or}
use Rattle.run_gantt.specs.Visits.{first_of, finish_in, leave_in}
use Rattle.run_gantt.proofs.visit_ends.search_visit_end.Given as goal

-- what was found first, else what comes first of the rest, is what comes first of all
abbrev pub invariant-loop-entry : goal.invariant-loop-entry
invariant-loop-entry l = record {
  finish : option_or l.finish (first_of (finish_in l.job l.machine) (drop l.entry-index l.entries)) ≡ first_of (finish_in l.job l.machine) l.entries;
  leave : option_or l.leave (first_of (leave_in l.job l.machine) (drop l.entry-index l.entries)) ≡ first_of (leave_in l.job l.machine) l.entries;
}
