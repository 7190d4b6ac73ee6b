use Rattle.std.proofs.Common.{ℕ, ◌*◌, ◌<◌, ◌≤◌}
use Rattle.shop_base.specs.Plan.{budget}
use Rattle.shop_base.specs.Graph.{leaving}
use Rattle.alt_graph.specs.LatestRows.{moment_in}
use Rattle.plan_margin.proofs.lengths.first_past.Given as goal

-- the leavings of the jobs looked at are within their budgets
abbrev pub invariant-loop-job : goal.invariant-loop-job
invariant-loop-job l = (j : ℕ) → j < l.job → moment_in l.graph.firsts l.lengths (leaving l.graph.plan j) ≤ budget l.graph.plan j * 1000
