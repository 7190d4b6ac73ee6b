use Rattle.std.proofs.Common.{◌≡◌, ◌++◌}
use Rattle.plan_verifier.specs.Leavings.{leaves_in}
use Rattle.plan_explain.specs.{Parts.texts_below, Leavings.leaves_line}
use Rattle.plan_explain.proofs.leaving_lines.push_leaving_lines.Given as goal

-- the lines of the jobs looked at are written
abbrev pub invariant-loop-job : goal.invariant-loop-job
invariant-loop-job g l = l.text.items ≡ l.initial.text.items ++ texts_below (λ j. leaves_line l.names l.cell.plan l.cell.cell j (leaves_in l.cell.plan l.times j)) l.job
