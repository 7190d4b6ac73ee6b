-- The latest moments of the nodes, backwards from the budgets.
use Rattle.std.specs.Prelude.{◌≡◌, ℕ, ◌+◌, ◌-◌, ◌<◌, ◌≤◌, ◌⊎◌, List, length, slice_index}
use Rattle.shop_base.specs.declared.node.Node.{Node}
use Rattle.shop_base.specs.Plan.{PlannedShop, steps, budget}
use Rattle.shop_base.specs.Graph.{Arc, IsNode}
use Rattle.alt_graph.specs.Layout.{number_of, IsCounted}

-- a moment for each node, by its number
pub record NodeMoments : Type 0 where
  pub firsts : List ℕ
  pub moments : List ℕ

-- the moment of a node
abbrev pub moment_of : NodeMoments → Node → ℕ
moment_of m v = slice_index m.moments (number_of m.firsts v)

-- the node is one of those that have a moment
abbrev pub HasMoment : NodeMoments → Node → Type 0
HasMoment m v = IsCounted m.firsts v

-- the moments of each job lie within all of them
abbrev pub AreInside : NodeMoments → Type 0
AreInside m = (j : ℕ) → j + 1 < length m.firsts → slice_index m.firsts (j + 1) ≤ length m.moments

-- the moment n of v is no later than its budget, if it is a leaving, or than an arc out of it allows, and is one of these; it is 0 where an arc is longer than the moment of its end
pub record IsLatest (p : PlannedShop) (kept : Node → ℕ) (Out : Node → Node → ℕ → Type 0) (v : Node) (n : ℕ) : Type 0 where
  pub budgets : v.place ≡ steps p v.job → n ≤ budget p v.job
  pub arcs : (w : Node) (d : ℕ) → Out v w d → n ≤ kept w - d
  pub pressed : ((v.place ≡ steps p v.job) × (n ≡ budget p v.job)) ⊎ ((w : Node) × (d : ℕ) × Out v w d × (n ≡ kept w - d))

-- so is the moment of each node
abbrev pub AreLatest : PlannedShop → (Node → ℕ) → Type 0
AreLatest p kept = (v : Node) → IsNode p v → IsLatest p kept (Arc p) v (kept v)
