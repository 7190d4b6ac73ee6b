-- The graph of a plan as contracts see it.
use Rattle.std.specs.Prelude.{◌≡◌, ℕ, List}
use Rattle.shop_base.specs.Plan.{PlannedShop, IsWellShaped}
use Rattle.alt_graph.specs.Lookups.{AreFirsts}

-- the plan, and the numbers of the jobs' first nodes
pub record PlanGraph : Type 0 where
  pub plan : PlannedShop
  pub firsts : List ℕ

-- the plan is well shaped, and the numbers are those of its nodes
pub record IsSoundGraph (graph : PlanGraph) : Type 0 where
  pub shaped : IsWellShaped graph.plan
  pub firsts : AreFirsts graph.plan graph.firsts

-- the graph is this plan's
pub record IsGraphOf (p : PlannedShop) (graph : PlanGraph) : Type 0 where
  pub plan : graph.plan ≡ p
  pub sound : IsSoundGraph graph
