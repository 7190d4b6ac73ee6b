-- The latest moments of the nodes in rows, while they are filled in.
use Rattle.std.specs.Prelude.{◌≡◌, ℕ, ◌≤◌, List, length, slice_index}
use Rattle.shop_base.specs.declared.node.Node.{Node}
use Rattle.shop_base.specs.Plan.{PlannedShop, jobs}
use Rattle.shop_base.specs.Graph.{Arc, IsNode}
use Rattle.alt_graph.specs.Times.{NodeTimes, rank_of}
use Rattle.alt_graph.specs.Lookups.{AreFirsts}
use Rattle.alt_graph.specs.Latest.{IsLatest, moment_of}

-- the moment of a node, where these are the first numbers and the moments
abbrev pub moment_in : List ℕ → List ℕ → Node → ℕ
moment_in firsts moments = moment_of (record { firsts = firsts; moments = moments })

-- the numbers are those of the nodes, and each has a moment
pub record HasRows (p : PlannedShop) (firsts moments : List ℕ) : Type 0 where
  pub numbers : AreFirsts p firsts
  pub size : length moments ≡ slice_index firsts (jobs p)

-- the nodes whose ranks are n or more have their latest moments
abbrev pub AreLatestFrom : PlannedShop → NodeTimes → (Node → ℕ) → ℕ → Type 0
AreLatestFrom p t kept n = (v : Node) → IsNode p v → n ≤ rank_of t v → IsLatest p kept (Arc p) v (kept v)
