-- Moments that respect the arcs and the budgets, and what runs come to whose reports come by them, however long anything takes.
use Rattle.std.specs.Prelude.{ℕ, ◌+◌, ◌<◌, ◌≤◌, List}
use Rattle.shop_base.specs.declared.node.Node.{Node}
use Rattle.shop_base.specs.declared.report.Report.{Report}
use Rattle.shop_base.specs.Plan.{PlannedShop, jobs}
use Rattle.shop_base.specs.Cell.{Cell, start, IsGone}
use Rattle.shop_base.specs.Run.{Event}
use Rattle.shop_base.specs.Controlled.{IsControlledRun}
use Rattle.shop_base.specs.Ends.{HasEnded, IsInTime, IsOutByBudget}
use Rattle.shop_base.specs.Graph.{Arc, IsNode, MeetBudgets}
use Rattle.shop_base.specs.Within.{AreWithin, AreByTheirOwn}

module _ (p : PlannedShop) (kept : Node → ℕ) where
  -- the moments respect the length of every arc, and each leaving is within its budget
  pub record FitBudgets : Type 0 where
    pub arcs : (u v : Node) (d : ℕ) → Arc p u v d → kept u + d ≤ kept v
    pub budgets : MeetBudgets p kept

  -- at the end of every controlled run in which each report comes by the moment of what its own activity holds up, each job is out by its budget
  abbrev pub AreEnoughAtTheEnd : Type 0
  AreEnoughAtTheEnd = (rs : List Report) (es : List Event) (end : Cell) → IsControlledRun p rs es end → AreByTheirOwn p kept (start p) es → HasEnded p end
      → (j : ℕ) → j < jobs p → IsOutByBudget p end j

  -- in every controlled run in which each report comes by the moments of all that goes on, each job is in time, and out by its budget once it is gone
  abbrev pub AreEnough : Type 0
  AreEnough = (rs : List Report) (es : List Event) (end : Cell) → IsControlledRun p rs es end → AreWithin p kept (start p) es
      → (j : ℕ) → j < jobs p → IsInTime p end j × (IsGone p end j → IsOutByBudget p end j)

-- no moments that fit are later, at any node
abbrev pub AreTheLatest : PlannedShop → (Node → ℕ) → Type 0
AreTheLatest p kept = (other : Node → ℕ) → FitBudgets p other → (v : Node) → IsNode p v → other v ≤ kept v
