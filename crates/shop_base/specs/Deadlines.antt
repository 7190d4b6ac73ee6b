-- The deadlines of the nodes ahead: the latest moments that leave each arc its length and each job its budget.
use Rattle.std.specs.Prelude.{◌≡◌, ℕ, ◌+◌, ◌⊎◌}
use Rattle.shop_base.specs.declared.node.Node.{Node}
use Rattle.shop_base.specs.Plan.{PlannedShop, steps, budget}
use Rattle.shop_base.specs.Cell.{Cell}
use Rattle.shop_base.specs.Graph.{Arc, IsNode}
use Rattle.shop_base.specs.Ahead.{IsAhead, RespectArcs, MeetBudgetsAhead}

-- the moment of the node can't be later: it is a leaving, kept to its budget, or the length of an arc before the moment of the node to which that leads
abbrev pub IsPressed : PlannedShop → (Node → ℕ) → Node → Type 0
IsPressed p kept v = ((v.place ≡ steps p v.job) × (kept v ≡ budget p v.job)) ⊎ ((w : Node) × (d : ℕ) × Arc p v w d × (kept v + d ≡ kept w))

-- the deadlines: moments that respect the arcs ahead and meet the budgets, and none of which can be later
pub record AreDeadlines (p : PlannedShop) (c : Cell) (kept : Node → ℕ) : Type 0 where
  pub budgets : MeetBudgetsAhead p c kept
  pub arcs : RespectArcs p c kept
  pub pressed : (v : Node) → IsNode p v → IsAhead c v → IsPressed p kept v
