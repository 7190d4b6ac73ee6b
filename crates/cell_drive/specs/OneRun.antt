-- What the log of a driven cell comes to.
use Rattle.std.specs.Prelude.{◌≡◌, ℕ, ◌+◌, ◌*◌, ◌<◌, ◌≤◌, ◌↔◌, List, [], ◌∷◌, ◌++◌, length, Option, Bool, IsTrue, Result, Err}
use Rattle.shop_base.specs.{declared.report.Report.Report, Plan.PlannedShop, Plan.jobs, Cell.Cell, Cell.start}
use Rattle.shop_base.specs.{Run.Event, Run.Reported, Run.Moved, Run.ends_in, Run.IsRun, Controlled.IsControlledRun}
use Rattle.shop_base.specs.{Punctual.ArePunctual, Ends.stated_number, Ends.reports_in, Ends.HasEnded, Ends.IsInTime}
use Rattle.shop_base.specs.KeptMoments.{KeepsLeaving}
use Rattle.plan_verifier.specs.Accepted.{VerifiedPlan, kept_at}
use Rattle.cell_control.specs.Promises.{RestsUnstuck}
use Rattle.cell_tables.specs.{declared.entry.Entry.Entry, Events.events_of}
use Rattle.run_log.specs.Log.{Noted}
use Rattle.byte_streams.specs.{declared.drive_fault.DriveFault.DriveFault, declared.rooms.TheConstants.MAX_PIECE}
use Rattle.byte_streams.specs.{declared.drive_fault.DriveFault.TheVariants.Memory, Lent.Streams, Streams.IsStreamed}

-- the cell after the events of a log
abbrev pub cell_after : PlannedShop → List Entry → Cell
cell_after p entries = ends_in p (events_of entries)

-- the events are the controlled run of some reports by the plan, which leads to the cell after them
abbrev pub IsRunOf : PlannedShop → List Entry → Type 0
IsRunOf p entries = (reports : List Report) × IsControlledRun p reports (events_of entries) (cell_after p entries)

-- the log has reserved two entries for each report of the stated number, and has no more
pub record IsNeverFull (p : PlannedShop) (log : Noted) : Type 0 where
  pub reserved : log.reserved ≡ 2 * stated_number p
  pub fits : length log.entries ≤ log.reserved

-- how far the run is: it is done exactly where the cell's run has ended, and exactly where as many reports were accepted as the stated number; the rest of that number is left
pub record IsSoFar (p : PlannedShop) (entries : List Entry) (done : Bool) (last left : ℕ) : Type 0 where
  pub ended : IsTrue done ↔ HasEnded p (cell_after p entries)
  pub counted : IsTrue done ↔ (reports_in (events_of entries) ≡ stated_number p)
  pub rest : reports_in (events_of entries) + left ≡ stated_number p
  pub moment : last ≡ (cell_after p entries).last

-- the next of the events is a report, or there is none
abbrev pub IsBeforeReport : List Event → Type 0
IsBeforeReport [] = Unit {0}
IsBeforeReport (Reported r ∷ es) = Unit {0}
IsBeforeReport (Moved o ∷ es) = ⊥

-- what an accepted plan promises after these events: they are a run, the cell rests and isn't stuck, and while all reports were punctual each job is in time
pub record IsAsPromised (v : VerifiedPlan) (es : List Event) : Type 0 where
  pub run : IsRun v.planned es
  pub rests : RestsUnstuck v.planned (ends_in v.planned es)
  pub in_time : ArePunctual v.planned (start v.planned) es → (j : ℕ) → j < jobs v.planned
      → KeepsLeaving v.planned (kept_at v) (ends_in v.planned es) j × IsInTime v.planned (ends_in v.planned es) j

-- so it is at the start of these events, and after each of their reports with the moves that it released
abbrev pub StaysAsPromised : VerifiedPlan → List Event → Type 0
StaysAsPromised v events = (es later : List Event) → events ≡ es ++ later → IsBeforeReport later → IsAsPromised v es

-- so it is through a log
abbrev pub NeverWentWrong : VerifiedPlan → List Entry → Type 0
NeverWentWrong v entries = StaysAsPromised v (events_of entries)

-- the answers to an input, which is read into a room of 65,536 bytes, are streamed from this start on; or memory ran out before the first byte was read, and nothing was touched
abbrev pub IsStreamedFrom : {S T : Type 0} → (S → ℕ → Option (List ℕ) → List ℕ → S → Type 0) → (S → List ℕ → Type 0) → S → Result T DriveFault → S → Streams → Streams → Type 0
IsStreamedFrom answers closes start (Err Memory) end before after = after ≡ before
IsStreamedFrom answers closes start outcome end before after = IsStreamed outcome MAX_PIECE answers closes start end before after
