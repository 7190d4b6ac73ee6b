-- The nodes in the order of their ranks.
use Rattle.std.specs.Prelude.{◌≡◌, ℕ, List, slice_index_or, Option, None, Some}
use Rattle.shop_base.specs.declared.node.Node.{Node}
use Rattle.shop_base.specs.Plan.{PlannedShop}
use Rattle.shop_base.specs.Graph.{IsNode}
use Rattle.alt_graph.specs.Times.{NodeTimes, rank_of}

-- the node stands in the list at the place of its rank
abbrev pub IsAtItsRank : NodeTimes → List (Option Node) → Node → Type 0
IsAtItsRank t nodes v = slice_index_or nodes (rank_of t v) None ≡ Some v

-- each node in the list is one of the shop, at the place of its rank
abbrev pub AreAtTheirRanks : PlannedShop → NodeTimes → List (Option Node) → Type 0
AreAtTheirRanks p t nodes = (i : ℕ) (v : Node) → slice_index_or nodes i None ≡ Some v → IsNode p v × (rank_of t v ≡ i)
