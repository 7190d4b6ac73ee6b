-- The laws of the moves: es is any run that keeps the plan, by any controller, and t a present moment.
use Rattle.std.specs.Prelude.{◌≡◌, ℕ, List}
use Rattle.shop_base.specs.declared.move_order.MoveOrder.{MoveOrder}
use Rattle.shop_base.specs.declared.report.Report.{Report}
use Rattle.shop_base.specs.Plan.{PlannedShop, IsWellShaped}
use Rattle.shop_base.specs.Cell.{Cell, start}
use Rattle.shop_base.specs.Run.{Event, IsRun, ends_in}
use Rattle.shop_base.specs.Controlled.{IsControlledRun}
use Rattle.shop_base.specs.Punctual.{AreExact, AreNotEarly, ArePunctualFrom}
use Rattle.shop_base.specs.Ahead.{GoesOnTo}
use Rattle.plan_moves.specs.NextReports.{IsOver}
use Rattle.plan_moves.specs.MovesFrom.{orders_in, AreMovesFrom}

-- they are the moves of a controlled run that goes on, with no report early, and none late but that what is overdue at t is reported at t
abbrev pub TheyAreTheMovesOfARun : Type 0
TheyAreTheMovesOfARun = (p : PlannedShop) (es : List Event) (t : ℕ) (moves : List MoveOrder) → IsWellShaped p → IsRun p es → AreMovesFrom p (ends_in p es) t moves
    → (rs : List Report) × (fs : List Event) × (end : Cell) × GoesOnTo p (ends_in p es) t rs fs end
    × ArePunctualFrom p t (ends_in p es) fs × AreNotEarly p (ends_in p es) fs × IsOver p t end × (moves ≡ orders_in fs)

-- those of a whole plan are the moves of a controlled run whose reports are exact
abbrev pub ThoseOfAPlanAreOfAnExactRun : Type 0
ThoseOfAPlanAreOfAnExactRun = (p : PlannedShop) (moves : List MoveOrder) → IsWellShaped p → AreMovesFrom p (start p) 0 moves
    → (rs : List Report) × (fs : List Event) × (end : Cell) × IsControlledRun p rs fs end × AreExact p (start p) fs × IsOver p 0 end × (moves ≡ orders_in fs)

-- there is only one list of them
abbrev pub OneListOfMoves : Type 0
OneListOfMoves = (p : PlannedShop) (es : List Event) (t : ℕ) (moves others : List MoveOrder) → IsWellShaped p → IsRun p es
    → AreMovesFrom p (ends_in p es) t moves → AreMovesFrom p (ends_in p es) t others → moves ≡ others
