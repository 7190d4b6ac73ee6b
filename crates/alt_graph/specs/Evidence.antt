-- The evidence of a refusal: a cycle, or a chain, which is a path with no more nodes than there are.
use Rattle.std.specs.Prelude.{◌≡◌, ℕ, ◌+◌, ◌<◌, ◌≤◌, ◌⊎◌, List, [], ◌∷◌, ◌++◌, All, length}
use Rattle.shop_base.specs.declared.node.Node.{Node}
use Rattle.shop_base.specs.Shop.{operations_of}
use Rattle.shop_base.specs.Plan.{PlannedShop, jobs}
use Rattle.shop_base.specs.Graph.{IsNode, IsSimpleCycle, Path}

-- nodes are ordered by job, then by place
abbrev pub IsNodeBefore : Node → Node → Type 0
IsNodeBefore u v = (u.job < v.job) ⊎ ((u.job ≡ v.job) × (u.place < v.place))

-- the evidence of a cycle: a simple cycle of nodes of the shop, the least of them first
abbrev pub IsCycle : PlannedShop → List Node → Type 0
IsCycle p [] = ⊥
IsCycle p (u ∷ us) = IsSimpleCycle p (u ∷ us) × All (IsNode p) (u ∷ us) × All (IsNodeBefore u) us

-- how many nodes there are: each job has one for each step, and its leaving
abbrev pub node_count : PlannedShop → ℕ
node_count p = jobs p + operations_of p.shop

-- the evidence of a moment that can't be earlier: a path, with the greatest length that one along these nodes has, and no more nodes than there are
pub record IsChain (p : PlannedShop) (nodes : List Node) (n : ℕ) : Type 0 where
  pub few : length nodes ≤ node_count p
  pub path : (v : Node) × Path p nodes v n
  pub greatest : (v : Node) (m : ℕ) → Path p nodes v m → m ≤ n

-- the list ends in this node
abbrev pub EndsIn : List Node → Node → Type 0
EndsIn nodes v = (front : List Node) × (nodes ≡ front ++ v ∷ [])
