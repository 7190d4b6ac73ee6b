-- The law that the reports which are accepted by a protocol are answered as version 1 of the lines answers them.
use Rattle.std.specs.Prelude.{◌≡◌, ℕ, List, [], ◌++◌, Bool, Option}
use Rattle.shop_base.specs.{declared.move_order.MoveOrder.MoveOrder, declared.report.Report.Report, Run.IsRun}
use Rattle.shop_base.specs.{Plan.PlannedShop, Plan.IsWellShaped, Cell.Cell, Cell.start}
use Rattle.cell_tables.specs.{declared.entry.Entry.Entry, Events.events_of}
use Rattle.byte_streams.specs.Answering.{AnswerAll}
use Rattle.event_lines.specs.{declared.details.Detail.Detail, declared.details.Overdue.Overdue, ReadBack.IsSpaceless}
use Rattle.event_lines.specs.StandingLines.{refused_detail_line}
use Rattle.cell_drive.specs.{declared.protocol.Protocol.Protocol, LineAnswers.accepted_lines, States.state_text}
use Rattle.cell_drive.specs.AnswerText.{DrivenCell, CellAnswers, AreAnswersTo}
use Rattle.cell_drive.specs.{ProtocolText.ProtocolAnswers, ProtocolText.acceptance_lines, ProtocolCellsLaw.SeesLines}
use Rattle.drive_laws.specs.AnswerLaw.{AreReportLines}

-- a text of answers, and the same without refusals and states, without what stands behind the moment of a late report, and without an end that is printed at once
pub data KeepsReports (p : PlannedShop) : List ℕ → List ℕ → Type 0 where
  nothing_more : KeepsReports p [] []
  refused : (number : ℕ) (name : List ℕ) (detail : Detail) (text other : List ℕ) → IsSpaceless name → KeepsReports p text other → KeepsReports p (refused_detail_line number name detail ++ text) other
  state : (c : Cell) (text other : List ℕ) → KeepsReports p text other → KeepsReports p (state_text [] p c ++ text) other
  accepted : (report : Report) (late : Bool) (overdue : Option Overdue) (orders : List MoveOrder) (ended : Bool) (text other : List ℕ) → KeepsReports p text other
      → KeepsReports p (acceptance_lines [] report late overdue orders ended ++ text) (accepted_lines [] report late orders ++ other)

-- let lines be answered by a protocol, and let others be just the reports that were accepted. To these version 1 answers the same lines of reports and orders, and comes to the same cell, with the same events
abbrev pub TheSameReportsAreAnsweredSo : Type 0
TheSameReportsAreAnsweredSo = (p : PlannedShop) (protocol : Protocol) (number first : ℕ) (lines reports : List (Option (List ℕ))) (text : List ℕ) (start end : DrivenCell) (more : List Entry)
    → AnswerAll (ProtocolAnswers p protocol) start number lines text end → end.entries ≡ start.entries ++ more → AreReportLines reports more
    → (other : List ℕ) × AnswerAll (CellAnswers p) start first reports other end × KeepsReports p text other

-- so it comes to the same cell as each of several does, with the same events
abbrev pub TheSameReportsOfACell : Type 0
TheSameReportsOfACell = (p : PlannedShop) (protocol : Protocol) (cell number : ℕ) (lines reports : List (Option (List ℕ))) (events : List Entry) (end : Cell)
    → SeesLines p protocol cell number (start p) lines events end → AreReportLines reports events
    → (other : List ℕ) × AreAnswersTo p reports other (record { cell = end; entries = events })

-- and such lines are there for the reports of any run, behind any of its events
abbrev pub EachReportHasALine : Type 0
EachReportHasALine = (p : PlannedShop) (before more : List Entry) → IsWellShaped p → IsRun p (events_of (before ++ more)) → (reports : List (Option (List ℕ))) × AreReportLines reports more
