-- The laws of exact runs: no job is out before a path allows it, nor after the moment that is kept for it.
use Rattle.std.specs.Prelude.{◌≡◌, ℕ, ◌≤◌, List, ◌∷◌, ◌++◌}
use Rattle.shop_base.specs.declared.node.Node.{Node}
use Rattle.shop_base.specs.declared.report.Report.{Report}
use Rattle.shop_base.specs.Plan.{PlannedShop, IsWellShaped}
use Rattle.shop_base.specs.Cell.{Cell, start, made, since, IsGone}
use Rattle.shop_base.specs.declared.move_order.MoveOrder.{MoveOrder}
use Rattle.shop_base.specs.Run.{Event, Moved, IsRun, ends_in}
use Rattle.shop_base.specs.Controlled.{IsControlledRun}
use Rattle.shop_base.specs.Punctual.{AreExact}
use Rattle.shop_base.specs.Graph.{node, leaving, Path, IsSchedule}

-- in no run whose reports are exact is job j gone since before moment n
abbrev pub IsNeverGoneBefore : PlannedShop → ℕ → ℕ → Type 0
IsNeverGoneBefore p j n = (es : List Event) → IsRun p es → AreExact p (start p) es → IsGone p (ends_in p es) j → n ≤ since (ends_in p es) j

-- no exact run is faster: no job is gone before the length of any path to its leaving
abbrev pub NoExactRunIsFaster : Type 0
NoExactRunIsFaster = (p : PlannedShop) (j : ℕ) (nodes : List Node) (n : ℕ) → IsWellShaped p → Path p nodes (leaving p j) n → IsNeverGoneBefore p j n

-- in a run whose reports are exact, no move is made before the length of any path to the node that it makes
abbrev pub NoExactMoveIsEarlier : Type 0
NoExactMoveIsEarlier =
    (p : PlannedShop) (es rest : List Event) (o : MoveOrder) → IsWellShaped p
    → IsRun p (es ++ Moved o ∷ rest) → AreExact p (start p) (es ++ Moved o ∷ rest)
    → (nodes : List Node) (n : ℕ) → Path p nodes (node o.job (made (ends_in p es) o.job)) n
    → n ≤ o.at

-- just in time: where a plan has a schedule, and all reports of a controlled run are exact, a job that is gone is gone since exactly the moment of its leaving, if a path to its leaving is that long
abbrev pub JustInTime : Type 0
JustInTime =
    (p : PlannedShop) (rank kept : Node → ℕ) (rs : List Report) (es : List Event) (end : Cell)
    → IsSchedule p rank kept → IsControlledRun p rs es end → AreExact p (start p) es
    → (j : ℕ) (nodes : List Node) → Path p nodes (leaving p j) (kept (leaving p j)) → IsGone p end j
    → since end j ≡ kept (leaving p j)
