-- Several cells that are driven by lines, in the order of their numbers.
use Rattle.std.specs.Prelude.{◌≡◌, ℕ, suc, List, [], ◌∷◌, ◌++◌, codes, map, Option, None, Some, slice_get, slice_set}
use Rattle.shop_base.specs.{declared.report.Report.Report, Cell.Cell, Cell.start, Ends.HasEnded}
use Rattle.plan_verifier.specs.Accepted.{VerifiedPlan, IsVerified}
use Rattle.cell_tables.specs.declared.entry.Entry.{Entry}
use Rattle.event_lines.specs.{AnswerLines.refused_line, SentLines.IsCellReport, SentLines.cell_prefix}
use Rattle.cell_drive.specs.LineAnswers.{SaysOnly, LineAnswer, ReportAnswer, IsClosingLine}

-- a cell that runs by a plan
pub record HubCell : Type 0 where
  pub plan : VerifiedPlan
  pub cell : Cell

-- before the first line
abbrev pub cell_start : VerifiedPlan → HubCell
cell_start v = record { plan = v; cell = start v.planned }

-- the plans are accepted ones
abbrev pub AreVerified : List VerifiedPlan → Type 0
AreVerified [] = Unit {0}
AreVerified (v ∷ plans) = IsVerified v × AreVerified plans

abbrev pub hub_start : List VerifiedPlan → List HubCell
hub_start plans = map cell_start plans

-- a report on the cell of a number
pub record OnCell : Type 0 where
  pub cell : ℕ
  pub report : Report

-- the line is this report on this cell
abbrev pub IsOnCell : List ℕ → OnCell → Type 0
IsOnCell line on = IsCellReport line on.cell on.report

-- the cell answers the report, with its number before each line but a refusal, and the others stay as they are
pub record IsAnsweredBy (c : HubCell) (cells : List HubCell) (number : ℕ) (on : OnCell) (text : List ℕ) (end : List HubCell) : Type 0 where
  pub events : List Entry
  pub next : Cell
  pub answer : ReportAnswer c.plan.planned (cell_prefix on.cell) c.cell number on.report text events next
  pub end_is : end ≡ slice_set cells on.cell (record { plan = c.plan; cell = next })

-- a report is answered by the cell of its number, where there is one
abbrev pub IsAnsweredIn : Option HubCell → List HubCell → ℕ → OnCell → List ℕ → List HubCell → Type 0
IsAnsweredIn None cells number on text end = SaysOnly (refused_line number (codes "NoSuchCell")) cells text end
IsAnsweredIn (Some c) cells number on text end = IsAnsweredBy c cells number on text end

abbrev pub CellsReport : List HubCell → ℕ → OnCell → List ℕ → List HubCell → Type 0
CellsReport cells number on text end = IsAnsweredIn (slice_get cells on.cell) cells number on text end

-- and so is a line
abbrev pub CellsAnswer : List HubCell → ℕ → Option (List ℕ) → List ℕ → List HubCell → Type 0
CellsAnswer = LineAnswer IsOnCell CellsReport

-- the closing lines, of each cell from a number on
abbrev pub CellsClose : ℕ → List HubCell → List ℕ → Type 0
CellsClose number [] text = text ≡ []
CellsClose number (c ∷ cells) text = (line : List ℕ) × (rest : List ℕ) × IsClosingLine c.plan.planned c.cell line × CellsClose (suc number) cells rest × (text ≡ (cell_prefix number ++ line) ++ rest)

-- the run of each cell has ended
abbrev pub AreAllDone : List HubCell → Type 0
AreAllDone [] = Unit {0}
AreAllDone (c ∷ cells) = HasEnded c.plan.planned c.cell × AreAllDone cells
