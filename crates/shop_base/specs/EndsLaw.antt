-- The laws of the stated number of reports.
use Rattle.std.specs.Prelude.{◌≡◌, ◌+◌, ◌≤◌, ◌↔◌, List}
use Rattle.shop_base.specs.declared.report.Report.{Report}
use Rattle.shop_base.specs.Plan.{PlannedShop, IsWellShaped}
use Rattle.shop_base.specs.Cell.{Cell}
use Rattle.shop_base.specs.Run.{Event, IsRun, ends_in}
use Rattle.shop_base.specs.Controlled.{IsControlledRun}
use Rattle.shop_base.specs.Ends.{HasEnded, stated_number, reports_in, moves_in}
use Rattle.shop_base.specs.ReportsLeft.{reports_left}

-- in every controlled run no more reports are accepted than the stated number, and it has ended exactly where as many were
abbrev pub EndsOnTheStatedNumber : Type 0
EndsOnTheStatedNumber =
    (p : PlannedShop) (rs : List Report) (es : List Event) (end : Cell) → IsWellShaped p → IsControlledRun p rs es end
    → (reports_in es ≤ stated_number p) × (HasEnded p end ↔ (reports_in es ≡ stated_number p))

-- in every run, by any controller, the reports so far and those still to come are together the stated number
abbrev pub ReportsAddUpToTheStatedNumber : Type 0
ReportsAddUpToTheStatedNumber =
    (p : PlannedShop) (es : List Event) → IsWellShaped p → IsRun p es → reports_in es + reports_left p (ends_in p es) ≡ stated_number p

-- in every controlled run there are no more orders than accepted reports
abbrev pub OrdersNeverOutnumberReports : Type 0
OrdersNeverOutnumberReports =
    (p : PlannedShop) (rs : List Report) (es : List Event) (end : Cell) → IsWellShaped p → IsControlledRun p rs es end
    → moves_in es ≤ reports_in es

-- nor are there more moves than reports in any other run
abbrev pub MovesNeverOutnumberReports : Type 0
MovesNeverOutnumberReports = (p : PlannedShop) (es : List Event) → IsWellShaped p → IsRun p es → moves_in es ≤ reports_in es
