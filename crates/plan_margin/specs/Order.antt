-- The nodes of a plan in an order in which arcs lead forward.
use Rattle.std.specs.Prelude.{◌≡◌, ℕ, ◌<◌, ◌≤◌, List, length, slice_index_or, Option, None, Some}
use Rattle.shop_base.specs.declared.node.Node.{Node}
use Rattle.shop_base.specs.Plan.{PlannedShop}
use Rattle.shop_base.specs.Graph.{Arc, IsNode}

-- node v stands at place i
abbrev pub IsAt : List (Option Node) → ℕ → Node → Type 0
IsAt nodes i v = slice_index_or nodes i None ≡ Some v

-- each node stands at one place, those from which arcs lead to it before it, and nothing else; there are no more places than nodes of any shop
pub record IsInOrder (p : PlannedShop) (nodes : List (Option Node)) : Type 0 where
  pub few : length nodes ≤ 20200
  pub all : (v : Node) → IsNode p v → (i : ℕ) × IsAt nodes i v
  pub of_plan : (i : ℕ) (v : Node) → IsAt nodes i v → IsNode p v
  pub once : (i k : ℕ) (v : Node) → IsAt nodes i v → IsAt nodes k v → i ≡ k
  pub forward : (i k : ℕ) (u v : Node) (d : ℕ) → Arc p u v d → IsAt nodes i u → IsAt nodes k v → i < k
