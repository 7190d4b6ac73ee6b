-- What is known of the arcs of a plan while they are shown.
use Rattle.std.specs.Prelude.{◌≡◌, ◌+◌, Option, MatchOption, false}
use Rattle.shop_base.specs.{declared.node.Node.Node, Plan.PlannedShop}
use Rattle.alt_graph.specs.PlanGraph.{PlanGraph}

-- v is the next place of u's job
pub record IsNext (u v : Node) : Type 0 where
  pub job : u.job ≡ v.job
  pub place : v.place ≡ u.place + 1

-- the graph is the plan's; there is one where the shop has recirculation
abbrev pub IsLookedUp : PlannedShop → Option PlanGraph → Type 0
IsLookedUp p graph = MatchOption graph (p.shop.recirculates ≡ false) (λ g. g.plan ≡ p)
