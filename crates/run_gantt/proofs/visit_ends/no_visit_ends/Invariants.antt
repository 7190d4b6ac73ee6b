use Rattle.std.proofs.Common.{◌≡◌, replicate}
use Rattle.run_gantt.specs.VisitEnds.{no_end}
use Rattle.run_gantt.proofs.visit_ends.no_visit_ends.Given as goal

abbrev pub invariant-loop-i : goal.invariant-loop-i
invariant-loop-i l = l.ends.items ≡ replicate l._i no_end
