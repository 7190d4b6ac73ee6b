-- A cell among several that are driven, seen as by a controller alone.
use Rattle.std.specs.Prelude.{◌≡◌, ◌↔◌, ℕ, List, [], ◌∷◌, Option, Some, slice_get}
use Rattle.shop_base.specs.{declared.report.Report.Report, Run.Event}
use Rattle.shop_base.specs.Ends.{stated_number, reports_in, HasEnded}
use Rattle.plan_verifier.specs.Accepted.{VerifiedPlan}
use Rattle.cell_control.specs.{Control.Control, Control.verified_in, Promises.IsControllerAfter}
use Rattle.event_lines.specs.SentLines.{IsCellReport}
use Rattle.byte_streams.specs.Answering.{AnswerAll}
use Rattle.cell_drive.specs.ManyCells.{HubCell, AreVerified, CellsAnswer, hub_start}
use Rattle.cell_drive.specs.OneRun.{StaysAsPromised}

-- the line is no report on the cell of this number
abbrev pub IsNotOn : ℕ → Option (List ℕ) → Type 0
IsNotOn cell line = (words : List ℕ) (report : Report) → line ≡ Some words → IsCellReport words cell report → ⊥

-- these lines have exactly these reports on the cell of this number, in order
pub data HaveReports (cell : ℕ) : List (Option (List ℕ)) → List Report → Type 0 where
  none_left : HaveReports cell [] []
  on_it : (words : List ℕ) (report : Report) (lines : List (Option (List ℕ))) (reports : List Report) → IsCellReport words cell report
      → HaveReports cell lines reports → HaveReports cell (Some words ∷ lines) (report ∷ reports)
  passed_over : (line : Option (List ℕ)) (lines : List (Option (List ℕ))) (reports : List Report) → IsNotOn cell line
      → HaveReports cell lines reports → HaveReports cell (line ∷ lines) reports

-- the cell of this number, by this plan, is as with a controller alone that was given the reports on it that these lines have: these events are their controlled run, which has ended exactly where as many reports were accepted as the stated number, and in which all stayed as the plan promises
pub record IsAsAlone (v : VerifiedPlan) (cell : ℕ) (lines : List (Option (List ℕ))) (end : HubCell) : Type 0 where
  pub reports : List Report
  pub have : HaveReports cell lines reports
  pub events : List Event
  pub alone : Control
  pub after : IsControllerAfter v reports events alone
  pub same : end ≡ record { plan = verified_in alone; cell = alone.cell }
  pub counted : HasEnded v.planned end.cell ↔ (reports_in events ≡ stated_number v.planned)
  pub promised : StaysAsPromised v events

-- the first lines of an input of cells by these plans are answered by this text, in version 1 of the lines
abbrev pub AreCellsAnswersTo : List VerifiedPlan → List (Option (List ℕ)) → List ℕ → List HubCell → Type 0
AreCellsAnswersTo plans lines text end = AnswerAll CellsAnswer (hub_start plans) 1 lines text end

-- so is the cell of each of these plans
abbrev pub AreAsAlone : List VerifiedPlan → List (Option (List ℕ)) → List HubCell → Type 0
AreAsAlone plans lines end = (cell : ℕ) (v : VerifiedPlan) → slice_get plans cell ≡ Some v → (content : HubCell) × (slice_get end cell ≡ Some content) × IsAsAlone v cell lines content

-- whatever lines were answered, each cell is so
abbrev pub EachCellIsAsAlone : Type 0
EachCellIsAsAlone = (plans : List VerifiedPlan) (lines : List (Option (List ℕ))) (text : List ℕ) (end : List HubCell) → AreVerified plans → AreCellsAnswersTo plans lines text end
    → AreAsAlone plans lines end
