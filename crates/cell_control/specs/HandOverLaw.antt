-- The law that a run which is handed over is one run, of the plan that took over.
use Rattle.std.specs.Prelude.{◌≡◌, ℕ, List, ◌++◌}
use Rattle.shop_base.specs.{declared.report.Report.Report, Plan.PlannedShop, Plan.IsWellShaped, Controlled.moved}
use Rattle.shop_base.specs.{Run.Event, Run.IsRun, Run.ends_in, Ahead.GoesOnTo}
use Rattle.cell_control.specs.{HandedOver.IsHandedOver, Control.Control, Promises.AreCalled}

-- these events were a run of plan q before, and with those after them they are one: the controlled run of these reports goes on from its end at moment t, and the controller is at the end of the whole
pub record IsOneRun (q : PlannedShop) (before : List Event) (t : ℕ) (rs : List Report) (after : List Event) (end : Control) : Type 0 where
  pub before_is_run : IsRun q before
  pub goes_on : GoesOnTo q (ends_in q before) t rs after end.cell
  pub run : IsRun q (before ++ after)
  pub ends : end.cell ≡ ends_in q (before ++ after)

-- where a controller that has made a run of plan p is handed over to plan q, the whole is one run of plan q, with the orders that were due then, whatever is reported afterwards
abbrev pub AHandedOverRunIsOneRun : Type 0
AHandedOverRunIsOneRun = (p q : PlannedShop) (es later : List Event) (t : ℕ) (rs : List Report) (old new end : Control) → IsWellShaped p → IsWellShaped q
    → IsRun p es → old.planned ≡ p → old.cell ≡ ends_in p es → IsHandedOver old q t new → AreCalled new rs later end → IsOneRun q es t rs (moved new.orders ++ later) end
