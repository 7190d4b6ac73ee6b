-- Reports that were examined possible.
use Rattle.std.specs.Prelude.{◌≡◌, ◌↔◌, Bool, false}
use Rattle.shop_base.specs.{declared.report.Report.Report, Plan.PlannedShop, Cell.Cell, Report.CanReport}
use Rattle.shop_base.specs.Punctual.{IsPunctual}

-- a report, and whether it is late
pub record ExaminedReport : Type 0 where
  pub report : Report
  pub late : Bool

-- both as one value
abbrev pub examined_so : Report → Bool → ExaminedReport
examined_so report late = record { report = report; late = late }

-- the report is possible in the cell, and late there or not
pub record IsPossible (p : PlannedShop) (c : Cell) (examined : ExaminedReport) : Type 0 where
  pub can : CanReport p c examined.report
  pub late : (examined.late ≡ false) ↔ IsPunctual p c examined.report

-- so it was found of this report
abbrev pub IsExamined : PlannedShop → Cell → Report → ExaminedReport → Type 0
IsExamined p c report examined = (examined.report ≡ report) × IsPossible p c examined
