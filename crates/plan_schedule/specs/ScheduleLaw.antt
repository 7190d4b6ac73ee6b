-- The law that ties a schedule to the run that it is of.
use Rattle.std.specs.Prelude.{ℕ, ◌<◌, ◌≤◌, List, Option}
use Rattle.shop_base.specs.{declared.node.Node.Node, declared.limits.TheConstants.MAX_MOMENT, declared.report.Report.Report}
use Rattle.shop_base.specs.{Plan.PlannedShop, Plan.jobs, Plan.IsWellShaped, Cell.Cell, Cell.start, Cell.IsGone, Run.Event}
use Rattle.shop_base.specs.{Controlled.IsControlledRun, Punctual.AreExact, Graph.leaving, Graph.RanksRise}
use Rattle.plan_schedule.specs.{Scheduled.AreEarliest, OnTime.AreOnTime}

-- schedules have the exact run: where ranks rise along every arc, each event of a controlled run whose reports are exact comes at just the moment that the lines by the earliest moments have
abbrev pub ScheduleIsTheExactRun : Type 0
ScheduleIsTheExactRun = (p : PlannedShop) (rank moments : Node → ℕ) (due : Node → Option ℕ) (rs : List Report) (es : List Event) (end : Cell)
    → IsWellShaped p → RanksRise p rank → AreEarliest p (start p) 0 moments → IsControlledRun p rs es end → AreExact p (start p) es
    → AreOnTime p moments due (start p) es

-- there is such a run, and in it each job is gone whose leaving is scheduled for a moment that can be reported
abbrev pub SomeRunIsExact : Type 0
SomeRunIsExact = (p : PlannedShop) (rank moments : Node → ℕ) → IsWellShaped p → RanksRise p rank → AreEarliest p (start p) 0 moments
    → (rs : List Report) × (es : List Event) × (end : Cell) × IsControlledRun p rs es end × AreExact p (start p) es
    × ((j : ℕ) → j < jobs p → moments (leaving p j) ≤ MAX_MOMENT → IsGone p end j)
