-- Logs of controlled runs that may have been cut.
use Rattle.std.specs.Prelude.{◌≡◌, ℕ, ◌≤◌, List, [], ◌∷◌, ◌++◌, length, map, take}
use Rattle.shop_base.specs.{Plan.PlannedShop, declared.move_order.MoveOrder.MoveOrder, declared.report.Report.Report}
use Rattle.shop_base.specs.{Run.Event, Run.Reported, Run.Moved, Controlled.IsControlledRun}
use Rattle.cell_tables.specs.{declared.entry.Entry.Entry, declared.entry.Entry.TheVariants.Order as OrderEntry}
use Rattle.cell_tables.specs.Events.{events_of}
use Rattle.event_lines.specs.LogLines.{LinesParse}
use Rattle.cell_drive.specs.OneRun.{cell_after}

-- the reports among the events
abbrev pub reported : List Event → List Report
reported [] = []
reported (Reported r ∷ es) = r ∷ reported es
reported (Moved o ∷ es) = reported es

-- the events are the controlled run of their reports, all of which are accepted
abbrev pub IsOwnRun : PlannedShop → List Entry → Type 0
IsOwnRun p entries = IsControlledRun p (reported (events_of entries)) (events_of entries) (cell_after p entries)

-- the lines record these events, which are, with these orders behind them, a controlled run in which all their reports are accepted
pub record IsCutLog (p : PlannedShop) (lines : List (List ℕ)) (recorded : List Entry) (due : List MoveOrder) : Type 0 where
  pub parses : LinesParse p lines recorded
  pub run : IsOwnRun p (recorded ++ map OrderEntry due)

-- the lines are such a log: they record the first of these entries, so many, and the others are the orders that are due
pub record IsCutLogOf (p : PlannedShop) (lines : List (List ℕ)) (entries : List Entry) (recorded : ℕ) : Type 0 where
  pub due : List MoveOrder
  pub log : IsCutLog p lines (take recorded entries) due
  pub whole : entries ≡ take recorded entries ++ map OrderEntry due
  pub within : recorded ≤ length entries
