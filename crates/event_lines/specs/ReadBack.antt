-- The laws that what was written is read, and in one way.
use Rattle.std.specs.Prelude.{◌≡◌, ℕ, ◌^◌, ◌<◌, nat_lt, true, List, [], ◌∷◌, ◌++◌}
use Rattle.std.specs.List.{list_all}
use Rattle.shop_base.specs.declared.report.Report.{Report}
use Rattle.shop_base.specs.Plan.{PlannedShop, IsWellShaped}
use Rattle.text_lines.specs.Lines.{lines_of}
use Rattle.cell_tables.specs.declared.entry.Entry.{Entry}
use Rattle.event_lines.specs.Words.{Word, Text, Number, JobStep, short, line_of, IsReadAs}
use Rattle.event_lines.specs.EventLines.{entry_line, IsEntryLine}
use Rattle.event_lines.specs.SentLines.{IsReportLine, IsCellReport, cell_prefix}
use Rattle.event_lines.specs.AnswerLines.{late_line, refused_line, done_line, unfinished_line}
use Rattle.cell_tables.specs.declared.standing.Standing.{Standing}
use Rattle.event_lines.specs.declared.details.Detail.{Detail}
use Rattle.event_lines.specs.declared.details.Overdue.{Overdue}
use Rattle.event_lines.specs.declared.requests.Request.{Request}
use Rattle.event_lines.specs.Requests.{IsRequestLine, IsCellRequest}
use Rattle.event_lines.specs.StandingLines.{unfinished_standing_line, refused_detail_line, late_overdue_line}
use Rattle.event_lines.specs.LogLines.{IsEntryOf, LinesParse}

-- the bytes have no space, nor any other byte below it
abbrev pub IsSpaceless : List ℕ → Type 0
IsSpaceless bytes = list_all (λ b. nat_lt 32 b) bytes ≡ true

-- the word fits its form: a text has no space, its numbers no more digits than they may have
abbrev pub IsFitting : Word → Type 0
IsFitting (Text text) = IsSpaceless text
IsFitting (Number most n) = (0 < most) × (n < 10 ^ most) × (n < 2 ^ 64)
IsFitting (JobStep job step) = (job < 10 ^ 9) × (step < 10 ^ 9)

-- each of the words does
abbrev pub AreFitting : List Word → Type 0
AreFitting [] = Unit {0}
AreFitting (word ∷ words) = IsFitting word × AreFitting words

-- the first line of the text is read as these words, and the rest are the lines behind it
pub record ReadsFirst (words : List Word) (text rest : List ℕ) : Type 0 where
  pub line : List ℕ
  pub lines : lines_of text ≡ line ∷ lines_of rest
  pub is : IsReadAs line words

-- a line of words that fit is read as these words, whatever stands behind it: so a report as it is sent, as it is written, an order, and each other answer
abbrev pub WhatIsWrittenIsRead : Type 0
WhatIsWrittenIsRead = (word : Word) (words : List Word) (rest : List ℕ) → AreFitting (word ∷ words) → ReadsFirst (word ∷ words) (line_of (word ∷ words) ++ rest) rest

-- with a cell's number before it, too
abbrev pub NumberedLinesAreLines : Type 0
NumberedLinesAreLines = (cell : ℕ) (word : Word) (words : List Word) → cell_prefix cell ++ line_of (word ∷ words) ≡ line_of (short cell ∷ word ∷ words)

-- the text records these entries, before whatever the lines behind it record
abbrev pub ParsesFirst : PlannedShop → List ℕ → List Entry → Type 0
ParsesFirst p text own = (rest : List ℕ) (later : List Entry) → LinesParse p (lines_of rest) later → LinesParse p (lines_of (text ++ rest)) (own ++ later)

-- the line of an entry of the shop records that entry
abbrev pub WrittenEntriesParse : Type 0
WrittenEntriesParse = (p : PlannedShop) (entry : Entry) → IsWellShaped p → IsEntryOf p entry → ParsesFirst p (entry_line entry) (entry ∷ [])

-- each other answer records none
pub record OtherAnswersParseNone (p : PlannedShop) : Type 0 where
  pub late : (at : ℕ) → ParsesFirst p (late_line at) []
  pub refused : (number : ℕ) (name : List ℕ) → IsSpaceless name → ParsesFirst p (refused_line number name) []
  pub done : (at : ℕ) → ParsesFirst p (done_line at) []
  pub unfinished : (left : ℕ) → ParsesFirst p (unfinished_line left) []
  pub stands : (standing : Standing) → ParsesFirst p (unfinished_standing_line standing) []
  pub refused_for : (number : ℕ) (name : List ℕ) (detail : Detail) → IsSpaceless name → ParsesFirst p (refused_detail_line number name detail) []
  pub late_for : (at : ℕ) (overdue : Overdue) → ParsesFirst p (late_overdue_line at overdue) []

-- a line is one entry at most, as it is written
abbrev pub OneEntry : Type 0
OneEntry = (line : List ℕ) (one other : Entry) → IsEntryLine line one → IsEntryLine line other → other ≡ one

-- and one report, as it is sent
abbrev pub OneReport : Type 0
OneReport = (line : List ℕ) (one other : Report) → IsReportLine line one → IsReportLine line other → other ≡ one

-- and one request
abbrev pub OneRequest : Type 0
OneRequest = (line : List ℕ) (one other : Request) → IsRequestLine line one → IsRequestLine line other → other ≡ one

-- on one cell
abbrev pub OneCellRequest : Type 0
OneCellRequest = (line : List ℕ) (cell cell' : ℕ) (one other : Request) → IsCellRequest line cell one → IsCellRequest line cell' other → (cell' ≡ cell) × (other ≡ one)

-- and one report on one cell
abbrev pub OneCellReport : Type 0
OneCellReport = (line : List ℕ) (cell cell' : ℕ) (one other : Report) → IsCellReport line cell one → IsCellReport line cell' other → (cell' ≡ cell) × (other ≡ one)
