-- A cell that is driven by a protocol: what is asked for, and how it is answered.
use Rattle.std.specs.Prelude.{◌≡◌, ◌↔◌, ℕ, List, [], ◌∷◌, ◌++◌, map, Option, None, Some, Bool, true, false, ◌&&◌, ◌==◌, ◌⊎◌, if◌then◌else◌}
use Rattle.std.specs.List.{flat_map}
use Rattle.shop_base.specs.{declared.move_order.MoveOrder.MoveOrder, Plan.PlannedShop, Cell.Cell, Punctual.IsPunctual}
use Rattle.shop_base.specs.{Controlled.IsStep, Controlled.after_step, Controlled.step_orders, ReportsLeft.reports_left}
use Rattle.shop_base.specs.Report.{at}
use Rattle.shop_base.specs.declared.report.Report as reports
use Rattle.cell_tables.specs.{declared.claim.Claim.Claim, Claims.claimed, declared.entry.Entry.Entry}
use Rattle.cell_tables.specs.declared.entry.Entry.TheVariants.{Report as ReportEntry, Order as OrderEntry}
use Rattle.byte_streams.specs.{Lines.input_lines, Answering.AnswerAll}
use Rattle.event_lines.specs.{EventLines.report_line, EventLines.order_line, SentLines.IsReportLine}
use Rattle.event_lines.specs.{AnswerLines.late_line, AnswerLines.done_line, Requests.IsRequestLine}
use Rattle.event_lines.specs.StandingLines.{refused_detail_line, late_overdue_line}
use Rattle.event_lines.specs.declared.details.Overdue.{Overdue}
use Rattle.cell_tables.specs.declared.claim.Claim.TheVariants.{Report}
use Rattle.event_lines.specs.declared.requests.Request.{Request}
use Rattle.event_lines.specs.declared.requests.Request.TheVariants.{Claim as ClaimRequest, Status}
use Rattle.cell_drive.specs.{declared.protocol.Protocol.Protocol, declared.refusals.Refusal.Refusal}
use Rattle.cell_drive.specs.Refusals.{IsRefusal, IsAdmissible, refusal_word, refusal_detail, standing_of}
use Rattle.cell_drive.specs.{States.overdue_in, States.state_text, LineAnswers.LineAnswer}
use Rattle.cell_drive.specs.AnswerText.{DrivenCell, undriven, CellCloses}

-- the line asks for this: in version 1 of the lines a report, in version 2 whatever is a request
abbrev pub AsksFor : Bool → List ℕ → Request → Type 0
AsksFor true line request = IsRequestLine line request
AsksFor false line (ClaimRequest (Report report)) = IsReportLine line report
AsksFor false line _ = ⊥

-- what is printed as overdue as a report comes, from version 2 on
abbrev pub printed_overdue : Protocol → PlannedShop → Cell → reports.Report → Option Overdue
printed_overdue protocol p c report = if protocol.version_2 then overdue_in p c (standing_of p c report) (at report) else None

-- whether the end of the run is printed at once
abbrev pub prints_end : Protocol → PlannedShop → Cell → Bool
prints_end protocol p c = protocol.version_2 && (reports_left p c == 0)

-- `late T`, and what is overdue where that is printed
abbrev pub lateness_line : ℕ → Option Overdue → List ℕ
lateness_line at None = late_line at
lateness_line at (Some overdue) = late_overdue_line at overdue

-- that line, with this before it, if the report was late
abbrev pub lateness_part : List ℕ → ℕ → Bool → Option Overdue → List ℕ
lateness_part prefix at late overdue = if late then prefix ++ lateness_line at overdue else []

-- the line of the end, if it is printed
abbrev pub end_part : List ℕ → ℕ → Bool → List ℕ
end_part prefix at ended = if ended then prefix ++ done_line at else []

-- the lines that answer an accepted report, with this before each: its own line, the line that it was late, the lines of its moves, and that of the end
abbrev pub acceptance_lines : List ℕ → reports.Report → Bool → Option Overdue → List MoveOrder → Bool → List ℕ
acceptance_lines prefix report late overdue orders ended =
    (prefix ++ report_line report) ++ (lateness_part prefix (at report) late overdue
    ++ (flat_map (λ o. prefix ++ order_line o) orders ++ end_part prefix (at report) ended))

-- the claim is refused, and nothing changes
pub record IsClaimRefused (p : PlannedShop) (protocol : Protocol) (prefix : List ℕ) (c : Cell) (number : ℕ) (claim : Claim) (text : List ℕ) (events : List Entry) (next : Cell) : Type 0 where
  pub refusal : Refusal
  pub first : IsRefusal protocol p c claim refusal
  pub text_is : text ≡ prefix ++ refused_detail_line number (refusal_word refusal) (refusal_detail protocol p c (claimed p claim) refusal)
  pub events_are : events ≡ []
  pub next_is : next ≡ c

-- the claim is accepted: its report makes a step of the controlled run, with these events
pub record IsClaimAccepted (p : PlannedShop) (protocol : Protocol) (prefix : List ℕ) (c : Cell) (claim : Claim) (text : List ℕ) (events : List Entry) (next : Cell) : Type 0 where
  pub accepted : IsAdmissible protocol p c claim
  pub movers : List ℕ
  pub step : IsStep p c (claimed p claim) movers
  pub late : Bool
  pub late_is : (late ≡ false) ↔ IsPunctual p c (claimed p claim)
  pub text_is : text ≡ acceptance_lines prefix (claimed p claim) late (printed_overdue protocol p c (claimed p claim)) (step_orders p c (claimed p claim) movers) (prints_end protocol p next)
  pub events_are : events ≡ ReportEntry (claimed p claim) ∷ map OrderEntry (step_orders p c (claimed p claim) movers)
  pub next_is : next ≡ after_step p c (claimed p claim) movers

-- the state is printed, and nothing changes
pub record IsStatePrinted (p : PlannedShop) (prefix : List ℕ) (c : Cell) (text : List ℕ) (events : List Entry) (next : Cell) : Type 0 where
  pub text_is : text ≡ state_text prefix p c
  pub events_are : events ≡ []
  pub next_is : next ≡ c

-- what stands before a refusal: in version 1 of the lines nothing, in version 2 what stands before each line
abbrev pub refusal_prefix : Protocol → List ℕ → List ℕ
refusal_prefix protocol prefix = if protocol.version_2 then prefix else []

-- in a cell a request, by its line of this number, is answered by this text, with this before each of its lines. It adds these events, and the cell is then another
abbrev pub RequestAnswer : PlannedShop → Protocol → List ℕ → Cell → ℕ → Request → List ℕ → List Entry → Cell → Type 0
RequestAnswer p protocol prefix c number (ClaimRequest claim) text events next = IsClaimRefused p protocol (refusal_prefix protocol prefix) c number claim text events next ⊎ IsClaimAccepted p protocol prefix c claim text events next
RequestAnswer p protocol prefix c number Status text events next = IsStatePrinted p prefix c text events next

-- so it is in a driven cell
pub record CellRequests (p : PlannedShop) (protocol : Protocol) (before : DrivenCell) (number : ℕ) (request : Request) (text : List ℕ) (next : DrivenCell) : Type 0 where
  pub more : List Entry
  pub answer : RequestAnswer p protocol [] before.cell number request text more next.cell
  pub entries : next.entries ≡ before.entries ++ more

-- and so with a line
abbrev pub ProtocolAnswers : PlannedShop → Protocol → DrivenCell → ℕ → Option (List ℕ) → List ℕ → DrivenCell → Type 0
ProtocolAnswers p protocol = LineAnswer (AsksFor protocol.version_2) (CellRequests p protocol)

-- the first lines of an input are answered by this text
abbrev pub AreProtocolAnswers : PlannedShop → Protocol → List (Option (List ℕ)) → List ℕ → DrivenCell → Type 0
AreProtocolAnswers p protocol lines text end = AnswerAll (ProtocolAnswers p protocol) (undriven p) 1 lines text end

-- the answer text of an input: the answers to its lines, in order, and the closing line
pub record IsProtocolText (p : PlannedShop) (protocol : Protocol) (input text : List ℕ) (end : DrivenCell) : Type 0 where
  pub answers : List ℕ
  pub are_answers : AreProtocolAnswers p protocol (input_lines input) answers end
  pub closing : List ℕ
  pub is_closing : CellCloses p end closing
  pub whole : text ≡ answers ++ closing
