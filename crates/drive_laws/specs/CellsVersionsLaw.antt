-- The law that version 2 of the lines only adds to what cells of a hub answer in version 1.
use Rattle.std.specs.Prelude.{◌≡◌, ℕ, List, [], ◌∷◌, ◌++◌, Bool, true, false, Option, None, Some}
use Rattle.shop_base.specs.declared.move_order.MoveOrder.{MoveOrder}
use Rattle.byte_streams.specs.Answering.{AnswerAll}
use Rattle.event_lines.specs.{declared.details.Detail.Detail, declared.details.Overdue.Overdue, SentLines.cell_prefix}
use Rattle.cell_tables.specs.declared.claim.Claim.TheVariants.{Report}
use Rattle.event_lines.specs.declared.requests.Request.{Request}
use Rattle.event_lines.specs.{declared.requests.Request.TheVariants.Claim as ClaimRequest, AnswerLines.refused_line}
use Rattle.event_lines.specs.{StandingLines.refused_detail_line, Requests.IsCellRequest}
use Rattle.cell_drive.specs.{ManyCells.HubCell, ProtocolText.acceptance_lines, ProtocolCells.ProtocolCellsAnswer}
use Rattle.drive_laws.specs.VersionsLaw.{in_version}
use Rattle.shop_base.specs.declared.report.Report as reports

-- the line asks of no cell what version 1 doesn't have: neither `status`, nor `clean M J T`, `finish J.K T` or `clean M J.K T`
abbrev pub AsksInVersion1 : Option (List ℕ) → Type 0
AsksInVersion1 line = (words : List ℕ) (cell : ℕ) (request : Request) → line ≡ Some words → IsCellRequest words cell request → (report : reports.Report) × (request ≡ ClaimRequest (Report report))

abbrev pub AskInVersion1 : List (Option (List ℕ)) → Type 0
AskInVersion1 [] = Unit {0}
AskInVersion1 (line ∷ lines) = AsksInVersion1 line × AskInVersion1 lines

-- a text of version 2, and the same without what it adds: no number of a cell stands before a refusal, nothing behind its name or the moment of a late report, and no end is printed at once
pub data IsPlainCellsText : List ℕ → List ℕ → Type 0 where
  nothing_more : IsPlainCellsText [] []
  refused : (number : ℕ) (name text other : List ℕ) → IsPlainCellsText text other → IsPlainCellsText (refused_line number name ++ text) (refused_line number name ++ other)
  refused_by : (cell number : ℕ) (name : List ℕ) (detail : Detail) (text other : List ℕ) → IsPlainCellsText text other
      → IsPlainCellsText ((cell_prefix cell ++ refused_detail_line number name detail) ++ text) (refused_line number name ++ other)
  accepted_by : (cell : ℕ) (report : reports.Report) (late : Bool) (overdue : Option Overdue) (orders : List MoveOrder) (ended : Bool) (text other : List ℕ) → IsPlainCellsText text other
      → IsPlainCellsText (acceptance_lines (cell_prefix cell) report late overdue orders ended ++ text) (acceptance_lines (cell_prefix cell) report late None orders false ++ other)

-- lines that version 1 has are answered in both versions, with the same reports and orders, and the answers of version 1 are those of version 2 without what it adds
abbrev pub Version2OnlyAddsForCells : Type 0
Version2OnlyAddsForCells = (max_gap : Option ℕ) (from number : ℕ) (lines : List (Option (List ℕ))) (text : List ℕ) (start end : List HubCell) → AskInVersion1 lines
    → AnswerAll (ProtocolCellsAnswer (in_version true max_gap from)) start number lines text end
    → (other : List ℕ) × AnswerAll (ProtocolCellsAnswer (in_version false max_gap from)) start number lines other end × IsPlainCellsText text other
