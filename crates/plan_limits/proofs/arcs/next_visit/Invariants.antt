use Rattle.std.proofs.Common.{ℕ, ◌<◌}
use Rattle.plan_bounds.specs.Bounds.{times_of, IsVisit}
use Rattle.plan_limits.proofs.arcs.next_visit.Given as goal

-- so far the job doesn't enter the machine behind the node
abbrev pub invariant-loop-place : goal.invariant-loop-place
invariant-loop-place g l = (k : ℕ) → l.node.place < k → k < l.place → IsVisit (times_of l.cell.plan) l.machine l.node.job k → ⊥
