-- What is answered, line by line.
use Rattle.std.specs.Prelude.{◌≡◌, ◌↔◌, ℕ, List, [], ◌∷◌, ◌++◌, codes, map, Option, None, Some, Bool, false, ◌⊎◌, ◌==◌, if◌then◌else◌}
use Rattle.std.specs.List.{flat_map}
use Rattle.shop_base.specs.{declared.move_order.MoveOrder.MoveOrder, declared.report.Report.Report, Plan.PlannedShop}
use Rattle.shop_base.specs.{Cell.Cell, Controlled.IsStep, Controlled.after_step, Controlled.step_orders}
use Rattle.shop_base.specs.{Punctual.IsPunctual, Ends.HasEnded, ReportsLeft.reports_left, Report.at}
use Rattle.cell_tables.specs.declared.entry.Entry.{Entry}
use Rattle.cell_tables.specs.declared.entry.Entry.TheVariants.{Report as ReportEntry, Order as OrderEntry}
use Rattle.cell_control.specs.{declared.report_fault.ReportFault.ReportFault, ReasonNames.reason_name}
use Rattle.cell_control.specs.Reports.{IsFirstReason}
use Rattle.event_lines.specs.EventLines.{report_line, order_line}
use Rattle.event_lines.specs.AnswerLines.{late_line, refused_line, done_line, unfinished_line}

-- this is all that is said, and nothing changes
pub record SaysOnly {S : Type 0} (line : List ℕ) (start : S) (text : List ℕ) (end : S) : Type 0 where
  pub text_is : text ≡ line
  pub end_is : end ≡ start

-- the line asks for nothing
abbrev pub AsksNothing : {Q : Type 0} → (List ℕ → Q → Type 0) → List ℕ → Type 0
AsksNothing {Q} asks line = (what : Q) → asks line what → ⊥

-- the line asks for something, which is answered by this text
pub record IsAsked {S Q : Type 0} (asks : List ℕ → Q → Type 0) (answers : S → ℕ → Q → List ℕ → S → Type 0) (line : List ℕ) (start : S) (number : ℕ) (text : List ℕ) (end : S) : Type 0 where
  pub what : Q
  pub asked : asks line what
  pub answer : answers start number what text end

-- the line of this number is answered by this text, which leads to another state. A line that is too long or asks for nothing is refused, and an empty one has no answer
abbrev pub LineAnswer : {S Q : Type 0} → (List ℕ → Q → Type 0) → (S → ℕ → Q → List ℕ → S → Type 0) → S → ℕ → Option (List ℕ) → List ℕ → S → Type 0
LineAnswer asks answers start number None text end = SaysOnly (refused_line number (codes "LongLine")) start text end
LineAnswer asks answers start number (Some []) text end = SaysOnly [] start text end
LineAnswer asks answers start number (Some (b ∷ line)) text end =
    (AsksNothing asks (b ∷ line) × SaysOnly (refused_line number (codes "BadLine")) start text end) ⊎ IsAsked asks answers (b ∷ line) start number text end

-- the lines that answer an accepted report, with this before each: its own line, the line that it was late if it was, and the lines of its moves
abbrev pub accepted_lines : List ℕ → Report → Bool → List MoveOrder → List ℕ
accepted_lines prefix report late orders =
    (prefix ++ report_line report) ++ ((if late then prefix ++ late_line (at report) else []) ++ flat_map (λ o. prefix ++ order_line o) orders)

-- the report isn't possible in the cell: it is refused by its first reason, and nothing changes
pub record IsRefusedReport (p : PlannedShop) (c : Cell) (number : ℕ) (report : Report) (text : List ℕ) (events : List Entry) (next : Cell) : Type 0 where
  pub reason : ReportFault
  pub first : IsFirstReason p c report reason
  pub text_is : text ≡ refused_line number (reason_name reason)
  pub events_are : events ≡ []
  pub next_is : next ≡ c

-- the report is possible: it makes a step of the controlled run, with these events
pub record IsAcceptedReport (p : PlannedShop) (prefix : List ℕ) (c : Cell) (report : Report) (text : List ℕ) (events : List Entry) (next : Cell) : Type 0 where
  pub movers : List ℕ
  pub step : IsStep p c report movers
  pub late : Bool
  pub late_is : (late ≡ false) ↔ IsPunctual p c report
  pub text_is : text ≡ accepted_lines prefix report late (step_orders p c report movers)
  pub events_are : events ≡ ReportEntry report ∷ map OrderEntry (step_orders p c report movers)
  pub next_is : next ≡ after_step p c report movers

-- in a cell a report, by its line of this number, is answered by this text, with this before each line but a refusal. It adds these events, and the cell is then another
abbrev pub ReportAnswer : PlannedShop → List ℕ → Cell → ℕ → Report → List ℕ → List Entry → Cell → Type 0
ReportAnswer p prefix c number report text events next = IsRefusedReport p c number report text events next ⊎ IsAcceptedReport p prefix c report text events next

-- the closing line, behind the last answer: the run is done, or so many reports are left
abbrev pub IsClosingLine : PlannedShop → Cell → List ℕ → Type 0
IsClosingLine p c text = (HasEnded p c × (text ≡ done_line c.last)) ⊎ ((HasEnded p c → ⊥) × (text ≡ unfinished_line (reports_left p c)))

-- that line, by the number of reports that are left
abbrev pub closing_line : PlannedShop → Cell → List ℕ
closing_line p c = let left = reports_left p c in if left == 0 then done_line c.last else unfinished_line left
