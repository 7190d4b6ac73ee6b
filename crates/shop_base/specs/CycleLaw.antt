-- The law that a cycle stops every run.
use Rattle.std.specs.Prelude.{ℕ, ◌<◌, ◌≤◌, List, [], ◌∷◌}
use Rattle.shop_base.specs.declared.node.Node.{Node}
use Rattle.shop_base.specs.Plan.{PlannedShop, jobs, IsWellShaped}
use Rattle.shop_base.specs.Cell.{made, IsGone}
use Rattle.shop_base.specs.Run.{Event, IsRun, ends_in}
use Rattle.shop_base.specs.Graph.{IsSimpleCycle}

-- whatever is reported and moved, at whatever moments, some job isn't gone
abbrev pub IsNeverDone : PlannedShop → Type 0
IsNeverDone p = (es : List Event) → IsRun p es → (j : ℕ) × (j < jobs p) × (IsGone p (ends_in p es) j → ⊥)

-- no run makes the move of this node: its job stays before it
abbrev pub IsNeverMade : PlannedShop → Node → Type 0
IsNeverMade p v = (es : List Event) → IsRun p es → made (ends_in p es) v.job ≤ v.place

-- nor that of any of these nodes
abbrev pub AreNeverMade : PlannedShop → List Node → Type 0
AreNeverMade p [] = Unit {0}
AreNeverMade p (v ∷ vs) = IsNeverMade p v × AreNeverMade p vs

-- where a well-shaped plan has a cycle, no run makes a move of it, and every run ends with some job not gone
abbrev pub ACycleStopsEveryRun : Type 0
ACycleStopsEveryRun = (p : PlannedShop) (nodes : List Node) → IsWellShaped p → IsSimpleCycle p nodes → AreNeverMade p nodes × IsNeverDone p
