-- The answer text of an input: what a cell answers to its lines, one after another, from its start.
use Rattle.std.specs.Prelude.{◌≡◌, ℕ, List, [], ◌++◌, Option}
use Rattle.shop_base.specs.{declared.report.Report.Report, Plan.PlannedShop, Cell.Cell, Cell.start}
use Rattle.cell_tables.specs.declared.entry.Entry.{Entry}
use Rattle.byte_streams.specs.Answering.{AnswerAll}
use Rattle.event_lines.specs.SentLines.{IsReportLine}
use Rattle.cell_drive.specs.LineAnswers.{LineAnswer, ReportAnswer, IsClosingLine}

-- a cell, and what was accepted and ordered in it
pub record DrivenCell : Type 0 where
  pub cell : Cell
  pub entries : List Entry

-- before the first line: the start of the cell, and no events
abbrev pub undriven : PlannedShop → DrivenCell
undriven p = record { cell = start p; entries = [] }

-- a report is answered by this text, which leads to another cell with more events
pub record CellReports (p : PlannedShop) (before : DrivenCell) (number : ℕ) (report : Report) (text : List ℕ) (next : DrivenCell) : Type 0 where
  pub more : List Entry
  pub answer : ReportAnswer p [] before.cell number report text more next.cell
  pub entries : next.entries ≡ before.entries ++ more

-- and so a line
abbrev pub CellAnswers : PlannedShop → DrivenCell → ℕ → Option (List ℕ) → List ℕ → DrivenCell → Type 0
CellAnswers p = LineAnswer IsReportLine (CellReports p)

-- the closing line
abbrev pub CellCloses : PlannedShop → DrivenCell → List ℕ → Type 0
CellCloses p end = IsClosingLine p end.cell

-- the first lines of an input are answered by this text
abbrev pub AreAnswersTo : PlannedShop → List (Option (List ℕ)) → List ℕ → DrivenCell → Type 0
AreAnswersTo p lines text end = AnswerAll (CellAnswers p) (undriven p) 1 lines text end
