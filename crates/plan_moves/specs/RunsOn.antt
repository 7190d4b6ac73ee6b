-- A run in which always the next report comes, while it goes on.
use Rattle.std.specs.Prelude.{◌≡◌, ℕ, ◌≤◌, List, ◌++◌, max}
use Rattle.shop_base.specs.declared.move_order.MoveOrder.{MoveOrder}
use Rattle.shop_base.specs.declared.report.Report.{Report}
use Rattle.shop_base.specs.Plan.{PlannedShop}
use Rattle.shop_base.specs.Cell.{Cell}
use Rattle.shop_base.specs.Activity.{Activity, GoesOn}
use Rattle.shop_base.specs.Run.{Event}
use Rattle.shop_base.specs.Controlled.{Leads}
use Rattle.shop_base.specs.Punctual.{EachReport}
use Rattle.plan_moves.specs.NextReports.{IsNextReport}
use Rattle.plan_moves.specs.MovesFrom.{orders_in}

-- the last moment isn't past what goes on, nor past the present moment t where that is overdue
abbrev pub IsOnTime : PlannedShop → ℕ → Cell → Type 0
IsOnTime p t c = (a : Activity) (due : ℕ) → GoesOn p c a due → c.last ≤ max due t

-- always the next report leads from one cell to another, with these moves besides those before
pub record RunsOn (p : PlannedShop) (t : ℕ) (from : Cell) (before : List MoveOrder) (to : Cell) (moves : List MoveOrder) : Type 0 where
  pub reports : List Report
  pub events : List Event
  pub leads : Leads p from reports events to
  pub next : EachReport p (IsNextReport p t) from events
  pub moves_are : moves ≡ before ++ orders_in events
