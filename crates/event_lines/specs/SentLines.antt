-- The lines in which reports are sent.
use Rattle.std.specs.Prelude.{ℕ, List, [], ◌∷◌, ◌++◌, decimal}
use Rattle.shop_base.specs.declared.report.Report.{Report}
use Rattle.shop_base.specs.Report.{at}
use Rattle.event_lines.specs.Words.{Word, Text, short, moment, IsReadAs}
use Rattle.event_lines.specs.EventLines.{end_name, end_numbers}

-- behind the word of what has ended: its numbers, and the moment
abbrev pub sent_numbers : Report → List Word
sent_numbers report = end_numbers report ++ moment (at report) ∷ []

-- `arrive J T`, `finish J M T` or `clean M T`
abbrev pub sent_words : Report → List Word
sent_words report = Text (end_name report) ∷ sent_numbers report

-- the line is this report
abbrev pub IsReportLine : List ℕ → Report → Type 0
IsReportLine line report = IsReadAs line (sent_words report)

-- the line is no report
abbrev pub IsNoReport : List ℕ → Type 0
IsNoReport line = (report : Report) → IsReportLine line report → ⊥

-- the line is this report on this cell, whose number and a space stand before it
abbrev pub IsCellReport : List ℕ → ℕ → Report → Type 0
IsCellReport line cell report = IsReadAs line (short cell ∷ sent_words report)

-- the line is no report on any cell
abbrev pub IsNoCellReport : List ℕ → Type 0
IsNoCellReport line = (cell : ℕ) (report : Report) → IsCellReport line cell report → ⊥

-- what stands before a line of an answer on a cell: its number and a space
abbrev pub cell_prefix : ℕ → List ℕ
cell_prefix cell = decimal cell ++ 32 ∷ []
