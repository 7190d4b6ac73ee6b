-- Where the lengths of paths begin and which arcs they follow: bounded nodes, and arcs from nodes ahead. The whole plan and the rest of a run are two readings of this.
use Rattle.std.specs.Prelude.{◌≡◌, ℕ, ◌+◌, ◌≤◌, List, [], ◌∷◌, ◌++◌, length, map, slice_index, slice_index_or, Option, None, Some}
use Rattle.shop_base.specs.declared.node.Node.{Node}
use Rattle.shop_base.specs.declared.limits.TheConstants.{MAX_MOMENT}
use Rattle.shop_base.specs.Plan.{PlannedShop}
use Rattle.shop_base.specs.Graph.{Arc, HasArc, IsNode, node}
use Rattle.alt_graph.specs.Evidence.{node_count}

-- for each job how many of its nodes are passed, and for its places the moments before which they aren't reached, whatever leads to them, where there is one
pub record NodeBounds : Type 0 where
  pub made : List ℕ
  pub recorded : List (List (Option ℕ))

-- the node is ahead, so that its arcs count
abbrev pub IsAheadOf : NodeBounds → Node → Type 0
IsAheadOf b v = slice_index b.made v.job ≤ v.place

-- the node's bound, if it has one
abbrev pub bound_of : NodeBounds → Node → Option ℕ
bound_of b v = slice_index_or (slice_index_or b.recorded v.job []) v.place None

-- no bound is greater
abbrev pub MAX_BOUND : ℕ
MAX_BOUND = MAX_MOMENT + MAX_MOMENT

-- a node without a bound follows another of its job, which is ahead
abbrev pub AreRooted : PlannedShop → NodeBounds → Type 0
AreRooted p b = (v : Node) → IsNode p v → bound_of b v ≡ None → (k : ℕ) × (v.place ≡ k + 1) × IsAheadOf b (node v.job k)

-- a path from a bound to a node, with its length: it begins with a bounded node, at its bound, and follows arcs from nodes ahead
pub data PathFrom (p : PlannedShop) (b : NodeBounds) : List Node → Node → ℕ → Type 0 where
  begins_at : (v : Node) (n : ℕ) → IsNode p v → bound_of b v ≡ Some n → PathFrom p b (v ∷ []) v n
  goes_along : (nodes : List Node) (u v : Node) (n d : ℕ) → PathFrom p b nodes u n → IsAheadOf b u → Arc p u v d → PathFrom p b (nodes ++ v ∷ []) v (n + d)

-- the evidence of a moment that can't be earlier: such a path, with the greatest length that one along these nodes has, and no more nodes than there are
pub record IsChainFrom (p : PlannedShop) (b : NodeBounds) (nodes : List Node) (n : ℕ) : Type 0 where
  pub few : length nodes ≤ node_count p
  pub path : (v : Node) × PathFrom p b nodes v n
  pub greatest : (v : Node) (m : ℕ) → PathFrom p b nodes v m → m ≤ n

-- the node has this bound
abbrev pub HasBound : PlannedShop → NodeBounds → Node → ℕ → Type 0
HasBound p b v n = IsNode p v × (bound_of b v ≡ Some n)

-- an arc leads from a node ahead
abbrev pub LeadsAhead : PlannedShop → NodeBounds → Node → Node → Type 0
LeadsAhead p b u v = IsAheadOf b u × HasArc p u v

-- the moments are at or after the bounds, and respect the length of every arc from a node ahead
pub record MomentsFitFrom (p : PlannedShop) (b : NodeBounds) (kept : Node → ℕ) : Type 0 where
  pub bounds : (v : Node) (n : ℕ) → IsNode p v → bound_of b v ≡ Some n → n ≤ kept v
  pub arcs : (u v : Node) (d : ℕ) → IsAheadOf b u → Arc p u v d → kept u + d ≤ kept v

-- the bounds of a whole plan: the releases, at the jobs' first places; all nodes are ahead
abbrev pub whole : PlannedShop → NodeBounds
whole p = record { made = []; recorded = map (λ release. Some release ∷ []) p.plan.release }
