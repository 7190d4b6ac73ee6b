use Rattle.std.proofs.Common.{ℕ, ◌<◌, ◌≤◌}
use Rattle.shop_base.specs.{Plan.budget, Graph.leaving}
use Rattle.alt_graph.specs.{Bounds.IsAheadOf, Times.earliest_of}
use Rattle.plan_verifier.proofs.leavings.first_late.Given as goal

-- the jobs looked at whose leavings are ahead are within their budgets
abbrev pub invariant-loop-job : goal.invariant-loop-job
invariant-loop-job g l = (i : ℕ) → i < l.job → IsAheadOf (g.B.Bounds.bounds l.bounds) (leaving l.shaped i) → earliest_of l.times (leaving l.shaped i) ≤ budget l.shaped i
