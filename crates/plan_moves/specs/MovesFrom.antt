-- The moves of a run in which everything is reported when it is due.
use Rattle.std.specs.Prelude.{◌≡◌, ℕ, List, [], ◌∷◌, ◌++◌}
use Rattle.shop_base.specs.declared.move_order.MoveOrder.{MoveOrder}
use Rattle.shop_base.specs.declared.report.Report.{Report}
use Rattle.shop_base.specs.Plan.{PlannedShop}
use Rattle.shop_base.specs.Cell.{Cell}
use Rattle.shop_base.specs.Run.{Event, Reported, Moved}
use Rattle.shop_base.specs.Controlled.{Leads}
use Rattle.shop_base.specs.Punctual.{EachReport}
use Rattle.cell_control.specs.Settled.{HasSettled}
use Rattle.plan_moves.specs.NextReports.{IsNextReport, IsOver}

-- the orders among the events
abbrev pub orders_in : List Event → List MoveOrder
orders_in [] = []
orders_in (Reported r ∷ es) = orders_in es
orders_in (Moved o ∷ es) = o ∷ orders_in es

-- these are the moves, from cell c and the present moment t on: first those at t, always of the first job that can move, until the cell is at rest; then those of the controlled run in which always the next report comes, until nothing that goes on is due up to the latest moment
pub record AreMovesFrom (p : PlannedShop) (c : Cell) (t : ℕ) (moves : List MoveOrder) : Type 0 where
  pub first : List MoveOrder
  pub rested : Cell
  pub settled : HasSettled p t c first rested
  pub reports : List Report
  pub events : List Event
  pub end : Cell
  pub leads : Leads p rested reports events end
  pub next : EachReport p (IsNextReport p t) rested events
  pub over : IsOver p t end
  pub moves_are : moves ≡ first ++ orders_in events
