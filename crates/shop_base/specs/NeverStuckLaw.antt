-- The law that no controlled run is stuck.
use Rattle.std.specs.Prelude.{ℕ, ◌⊎◌, List}
use Rattle.shop_base.specs.declared.node.Node.{Node}
use Rattle.shop_base.specs.declared.report.Report.{Report}
use Rattle.shop_base.specs.Plan.{PlannedShop, IsWellShaped}
use Rattle.shop_base.specs.Cell.{Cell}
use Rattle.shop_base.specs.Activity.{Activity, GoesOn}
use Rattle.shop_base.specs.Report.{report_of, CanReport}
use Rattle.shop_base.specs.Run.{Event, IsAtRest, IsStuck}
use Rattle.shop_base.specs.Controlled.{IsControlledRun}
use Rattle.shop_base.specs.Ends.{HasEnded}
use Rattle.shop_base.specs.Graph.{RanksRise}

-- an activity is going on, and a report of it at the last moment is possible
abbrev pub CanGoOn : PlannedShop → Cell → Type 0
CanGoOn p c = (a : Activity) × (due : ℕ) × GoesOn p c a due × CanReport p c (report_of a c.last)

-- each activity that is going on can be reported at the last moment
abbrev pub CanReportEach : PlannedShop → Cell → Type 0
CanReportEach p c = (a : Activity) (due : ℕ) → GoesOn p c a due → CanReport p c (report_of a c.last)

-- never stuck: where ranks rise along every arc, each controlled run ends at rest and not stuck, it has ended or can go on, and each activity can be reported
abbrev pub NeverStuck : Type 0
NeverStuck = (p : PlannedShop) (rank : Node → ℕ) (rs : List Report) (es : List Event) (end : Cell)
    → IsWellShaped p → RanksRise p rank → IsControlledRun p rs es end
    → IsAtRest p end × (IsStuck p end → ⊥) × (HasEnded p end ⊎ CanGoOn p end) × CanReportEach p end
