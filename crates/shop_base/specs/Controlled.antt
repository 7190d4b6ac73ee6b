-- The controlled run of a list of reports: each possible report, and the moves after it until the cell is at rest.
use Rattle.std.specs.Prelude.{ℕ, List, [], ◌∷◌, ◌++◌}
use Rattle.shop_base.specs.declared.report.Report.{Report}
use Rattle.shop_base.specs.Plan.{PlannedShop}
use Rattle.shop_base.specs.Cell.{Cell, start}
use Rattle.shop_base.specs.Report.{at, CanReport, after_report}
use Rattle.shop_base.specs.Move.{CanMove, KeepsPlan, after_move, order_for}
use Rattle.shop_base.specs.declared.move_order.MoveOrder.{MoveOrder}
use Rattle.shop_base.specs.Run.{Event, Reported, Moved, IsAtRest}

-- the moves as events
abbrev pub moved : List MoveOrder → List Event
moved [] = []
moved (o ∷ os) = Moved o ∷ moved os

module _ (p : PlannedShop) where
  -- these jobs can move one after another at moment t, and each move keeps the plan
  abbrev pub AreMoves : Cell → ℕ → List ℕ → Type 0
  AreMoves c t [] = Unit {0}
  AreMoves c t (j ∷ js) = CanMove p c j t × KeepsPlan p c j × AreMoves (after_move p c j t) t js

  -- the cell after their moves
  abbrev pub after_moves : Cell → ℕ → List ℕ → Cell
  after_moves c t [] = c
  after_moves c t (j ∷ js) = after_moves (after_move p c j t) t js

  -- the orders of these moves
  abbrev pub orders_for : Cell → ℕ → List ℕ → List MoveOrder
  orders_for c t [] = []
  orders_for c t (j ∷ js) = order_for p c j t ∷ orders_for (after_move p c j t) t js

module _ (p : PlannedShop) (c : Cell) (r : Report) (js : List ℕ) where
  -- the cell after a report, and these jobs' moves at its moment
  abbrev pub after_step : Cell
  after_step = after_moves p (after_report c r) (at r) js

  -- the orders of that step
  abbrev pub step_orders : List MoveOrder
  step_orders = orders_for p (after_report c r) (at r) js

  -- a step of the controlled run: the report is possible, the moves keep the plan, and they end at rest
  pub record IsStep : Type 0 where
    pub can : CanReport p c r
    pub moves : AreMoves p (after_report c r) (at r) js
    pub quiescent : IsAtRest p after_step

-- from a cell, reports lead to events and another cell: a possible report makes a step, any other changes nothing
pub data Leads (p : PlannedShop) : Cell → List Report → List Event → Cell → Type 0 where
  done : (c : Cell) → Leads p c [] [] c
  accepted : (c : Cell) (r : Report) (js : List ℕ) (rs : List Report) (es : List Event) (end : Cell)
      → IsStep p c r js → Leads p (after_step p c r js) rs es end
      → Leads p c (r ∷ rs) (Reported r ∷ (moved (step_orders p c r js) ++ es)) end
  refused : (c : Cell) (r : Report) (rs : List Report) (es : List Event) (end : Cell)
      → (CanReport p c r → ⊥) → Leads p c rs es end
      → Leads p c (r ∷ rs) es end

-- the controlled run of a list of reports: its events, and the cell at its end
abbrev pub IsControlledRun : PlannedShop → List Report → List Event → Cell → Type 0
IsControlledRun p rs es end = Leads p (start p) rs es end
