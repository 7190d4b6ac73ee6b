-- A controlled run ends on the stated number of reports, and never has more orders than reports.
use Rattle.std.proofs.Common.{◌≡◌, ◌+◌, List, [], arith}
use Rattle.shop_base.specs.Plan.{PlannedShop, IsWellShaped}
use Rattle.shop_base.specs.Cell.{start}
use Rattle.shop_base.specs.Run.{Event, IsRun, ends_in}
use Rattle.shop_base.specs.Ends.{reports_in, stated_number}
use Rattle.shop_base.specs.ReportsLeft.{reports_left}
use Rattle.shop_base.specs.EndsLaw.{EndsOnTheStatedNumber, OrdersNeverOutnumberReports, MovesNeverOutnumberReports}
use Rattle.shop_base.proofs.Keeping.{start-sound}
use Rattle.shop_base.proofs.ControlledRuns.{controlled_to_run}
use Rattle.shop_base.proofs.ReportsLeft.{start-reports_left, run-reports_left}
use Rattle.shop_base.proofs.GoingOn.{ends_on_the_reports_left-holds}
use Rattle.shop_base.proofs.StartAhead.{from_start}
use Rattle.shop_base.proofs.ReadyCount.{start-ready_count, run-ready_count}

-- in every run, by any controller, the reports so far and those still to come are as many as the stated number
pub run-stated_number : (p : PlannedShop) (es : List Event) → IsWellShaped p → IsRun p es → reports_in es + reports_left p (ends_in p es) ≡ stated_number p
run-stated_number p es shaped run = omega (arith, run-reports_left p (start p) es shaped (start-sound p shaped) run, start-reports_left p)

-- a controlled run goes on from the start, where as many reports are left as the stated number
pub ends_on_the_stated_number-holds : EndsOnTheStatedNumber
ends_on_the_stated_number-holds p rs es end shaped controlled =
    rw (start-reports_left p) at (ends_on_the_reports_left-holds p [] 0 rs es end shaped tt (from_start p rs es end controlled))

pub moves_never_outnumber_reports-holds : MovesNeverOutnumberReports
moves_never_outnumber_reports-holds p es shaped run =
    omega (arith, run-ready_count p (start p) es shaped (start-sound p shaped) run, start-ready_count p)

pub orders_never_outnumber_reports-holds : OrdersNeverOutnumberReports
orders_never_outnumber_reports-holds p rs es end shaped controlled =
    moves_never_outnumber_reports-holds p es shaped (controlled_to_run p rs es end shaped controlled).0
