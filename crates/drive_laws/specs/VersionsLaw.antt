-- The law that version 2 of the lines only adds to the answers of version 1.
use Rattle.std.specs.Prelude.{◌≡◌, ℕ, List, [], ◌∷◌, ◌++◌, Bool, true, false, Option, None, Some}
use Rattle.shop_base.specs.{declared.move_order.MoveOrder.MoveOrder, Plan.PlannedShop}
use Rattle.byte_streams.specs.Answering.{AnswerAll}
use Rattle.event_lines.specs.{declared.details.Detail.Detail, declared.details.Overdue.Overdue, EventLines.order_line}
use Rattle.cell_tables.specs.declared.claim.Claim.TheVariants.{Report}
use Rattle.event_lines.specs.declared.requests.Request.{Request}
use Rattle.event_lines.specs.{declared.requests.Request.TheVariants.Claim as ClaimRequest, AnswerLines.refused_line}
use Rattle.event_lines.specs.{StandingLines.refused_detail_line, Requests.IsRequestLine}
use Rattle.cell_drive.specs.{declared.protocol.Protocol.Protocol, AnswerText.DrivenCell}
use Rattle.cell_drive.specs.ProtocolText.{ProtocolAnswers, acceptance_lines}
use Rattle.shop_base.specs.declared.report.Report as reports

-- the line asks for nothing that version 1 doesn't have: neither `status`, nor `clean M J T`, `finish J.K T` or `clean M J.K T`
abbrev pub IsOfVersion1 : Option (List ℕ) → Type 0
IsOfVersion1 line = (words : List ℕ) (request : Request) → line ≡ Some words → IsRequestLine words request → (report : reports.Report) × (request ≡ ClaimRequest (Report report))

abbrev pub AreOfVersion1 : List (Option (List ℕ)) → Type 0
AreOfVersion1 [] = Unit {0}
AreOfVersion1 (line ∷ lines) = IsOfVersion1 line × AreOfVersion1 lines

-- a text of version 2, and the same without what it adds: nothing stands behind the name of a refusal or the moment of a late report, and the end isn't printed at once
pub data IsPlainText : List ℕ → List ℕ → Type 0 where
  nothing_more : IsPlainText [] []
  refused : (number : ℕ) (name : List ℕ) (detail : Detail) (text other : List ℕ) → IsPlainText text other → IsPlainText (refused_detail_line number name detail ++ text) (refused_line number name ++ other)
  accepted : (report : reports.Report) (late : Bool) (overdue : Option Overdue) (orders : List MoveOrder) (ended : Bool) (text other : List ℕ) → IsPlainText text other
      → IsPlainText (acceptance_lines [] report late overdue orders ended ++ text) (acceptance_lines [] report late None orders false ++ other)
  ordered : (order : MoveOrder) (text other : List ℕ) → IsPlainText text other → IsPlainText (order_line order ++ text) (order_line order ++ other)
  empty_line : (text other : List ℕ) → IsPlainText text other → IsPlainText (10 ∷ text) (10 ∷ other)

-- in this version of the lines, with the longest time that may pass, from a moment on
abbrev pub in_version : Bool → Option ℕ → ℕ → Protocol
in_version version_2 max_gap from = record { version_2 = version_2; max_gap = max_gap; from = from }

-- lines that version 1 has are answered in both versions, with the same reports and orders, and the answers of version 1 are those of version 2 without what it adds
abbrev pub Version2OnlyAdds : Type 0
Version2OnlyAdds = (p : PlannedShop) (max_gap : Option ℕ) (from number : ℕ) (lines : List (Option (List ℕ))) (text : List ℕ) (start end : DrivenCell) → AreOfVersion1 lines
    → AnswerAll (ProtocolAnswers p (in_version true max_gap from)) start number lines text end
    → (other : List ℕ) × AnswerAll (ProtocolAnswers p (in_version false max_gap from)) start number lines other end × IsPlainText text other
