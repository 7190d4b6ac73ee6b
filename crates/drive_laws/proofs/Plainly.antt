-- In version 1 of the lines, and with no leap, lines are answered as `drive` and `hub` answer them.
use Rattle.std.proofs.Common.{◌≡◌, ℕ, ◌+◌, List, [], ◌∷◌, ◌++◌, Bool, true, false, cond, Option, Some, None, refl, ap, ◌∙◌, inl, inr, append-nil}
use Rattle.std.specs.{List.flat_map, Prelude.slice_get}
use Rattle.shop_base.specs.{Plan.PlannedShop, Cell.Cell, Controlled.step_orders, Report.at}
use Rattle.byte_streams.specs.Answering.{AnswerAll}
use Rattle.cell_tables.specs.declared.{claim.Claim.TheVariants.{Report, FinishStep, CleanAfter, CleanAfterStep}, entry.Entry.Entry}
use Rattle.cell_control.specs.{declared.report_fault.ReportFault.ReportFault, Reports.IsFirstReason}
use Rattle.event_lines.specs.declared.requests.Request.{TheVariants.{Claim as ClaimRequest, Status}, Request}
use Rattle.event_lines.specs.{declared.details.Detail.TheVariants.Nothing, SentLines.{IsReportLine, cell_prefix}}
use Rattle.event_lines.specs.AnswerLines.{late_line}
use Rattle.event_lines.specs.{StandingLines.refused_detail_line, EventLines.{report_line, order_line}}
use Rattle.cell_drive.specs.{declared.refusals.Refusal.{TheVariants.Reason, Refusal}, ProtocolLaw.PlainlyAsEver}
use Rattle.cell_drive.specs.{AnswerText.{DrivenCell, CellReports}, ProtocolText.{AsksFor, CellRequests, RequestAnswer}}
use Rattle.cell_drive.specs.{LineAnswers.{IsAsked, ReportAnswer, AsksNothing, LineAnswer}, Protocols.plain_from}
use Rattle.cell_drive.specs.ManyCells.{HubCell, IsOnCell, IsAnsweredIn, CellsReport}
use Rattle.cell_drive.specs.{Refusals.{IsRefusal, refusal_word, is_before_leap}, ProtocolCellsLaw.PlainlyAsEverForCells}
use Rattle.cell_drive.specs.ProtocolCells.{AsksCell, AsksOf, IsReplyIn, CellsReply}
use Rattle.shop_base.specs.declared.report.Report as reports

-- ---- lines that are answered alike

module _ {S Q R : Type 0} (asks : List ℕ → Q → Type 0) (asks_so : List ℕ → R → Type 0) (answers : S → ℕ → Q → List ℕ → S → Type 0) (answers_so : S → ℕ → R → List ℕ → S → Type 0)
    (nothing_so : (line : List ℕ) → AsksNothing asks line → AsksNothing asks_so line)
    (asked_so : (start : S) (number : ℕ) (line : List ℕ) (what : Q) (text : List ℕ) (end : S) → asks line what → answers start number what text end → IsAsked asks_so answers_so line start number text end) where
  line_so : (start : S) (number : ℕ) (line : Option (List ℕ)) (text : List ℕ) (end : S) → LineAnswer asks answers start number line text end → LineAnswer asks_so answers_so start number line text end
  line_so start number None text end is = is
  line_so start number (Some []) text end is = is
  line_so start number (Some (b ∷ line)) text end (inl is) = inl (nothing_so (b ∷ line) is.0, is.1)
  line_so start number (Some (b ∷ line)) text end (inr is) = inr (asked_so start number (b ∷ line) is.what text end is.asked is.answer)

  pub lines_so : (number : ℕ) (lines : List (Option (List ℕ))) (text : List ℕ) (start end : S) → AnswerAll (LineAnswer asks answers) start number lines text end → AnswerAll (LineAnswer asks_so answers_so) start number lines text end
  lines_so number [] text start end all = all
  lines_so number (line ∷ lines) text start end all = (all.0, all.1, all.2, line_so start number line all.0 all.2 all.3, lines_so (number + 1) lines all.1 all.2 end all.4, all.5)

-- ---- a report

pub either_way : (before : Bool) (reason : ReportFault) → cond before (Reason reason) (Reason reason) ≡ Reason reason
either_way true reason = refl
either_way false reason = refl

module _ (p : PlannedShop) (from : ℕ) where
  -- the first reason against a report is that for which it is refused
  plain_reason : (c : Cell) (report : reports.Report) (refusal : Refusal) → IsRefusal (plain_from from) p c (Report report) refusal
      → (reason : ReportFault) × IsFirstReason p c report reason × (refusal ≡ Reason reason)
  plain_reason c report refusal (inl (reason, first, same)) = (reason, first, same ∙ either_way (is_before_leap reason) reason)
  plain_reason c report refusal (inr (can, does_leap, same)) = absurd (cc)

  pub plain_report : (prefix : List ℕ) (c : Cell) (number : ℕ) (report : reports.Report) (text : List ℕ) (events : List Entry) (next : Cell)
      → RequestAnswer p (plain_from from) prefix c number (ClaimRequest (Report report)) text events next → ReportAnswer p prefix c number report text events next
  plain_report prefix c number report text events next (inl is) =
      let (reason, first, same) = plain_reason c report is.refusal is.first in
      inl (record {
        reason = reason;
        first = first;
        text_is = is.text_is ∙ ap (λ (r : Refusal). refused_detail_line number (refusal_word r) Nothing) same;
        events_are = is.events_are;
        next_is = is.next_is;
      })
  plain_report prefix c number report text events next (inr is) =
      let orders = step_orders p c report is.movers in
      inr (record {
        movers = is.movers;
        step = is.step;
        late = is.late;
        late_is = is.late_is;
        text_is = is.text_is ∙ ap (λ (rest : List ℕ). (prefix ++ report_line report) ++ (cond is.late (prefix ++ late_line (at report)) [] ++ rest)) (append-nil (flat_map (λ o. prefix ++ order_line o) orders));
        events_are = is.events_are;
        next_is = is.next_is;
      })

-- ---- a cell, and the cells of a hub

module _ (from : ℕ) where
  plain_request : (p : PlannedShop) (before : DrivenCell) (number : ℕ) (line : List ℕ) (request : Request) (text : List ℕ) (end : DrivenCell) → AsksFor false line request
      → CellRequests p (plain_from from) before number request text end → IsAsked IsReportLine (CellReports p) line before number text end
  plain_request p before number line (ClaimRequest (Report report)) text end asked is =
      record { what = report; asked = asked; answer = record { more = is.more; answer = plain_report p from [] before.cell number report text is.more end.cell is.answer; entries = is.entries } }
  plain_request p before number line (ClaimRequest (FinishStep job step at)) text end asked is = absurd asked
  plain_request p before number line (ClaimRequest (CleanAfter machine job at)) text end asked is = absurd asked
  plain_request p before number line (ClaimRequest (CleanAfterStep machine job step at)) text end asked is = absurd asked
  plain_request p before number line Status text end asked is = absurd asked

  plain_reply : (o : Option HubCell) (cells : List HubCell) (number cell : ℕ) (report : reports.Report) (text : List ℕ) (end : List HubCell)
      → IsReplyIn (plain_from from) o cells number (record { cell = cell; request = ClaimRequest (Report report) }) text end → IsAnsweredIn o cells number (record { cell = cell; report = report }) text end
  plain_reply None cells number cell report text end is = is
  plain_reply (Some c) cells number cell report text end is =
      record { events = is.events; next = is.next; answer = plain_report c.plan.planned from (cell_prefix cell) c.cell number report text is.events is.next is.answer; end_is = is.end_is }

  plain_asked : (start : List HubCell) (number : ℕ) (line : List ℕ) (cell : ℕ) (request : Request) (text : List ℕ) (end : List HubCell) → AsksCell false line cell request
      → CellsReply (plain_from from) start number (record { cell = cell; request = request }) text end → IsAsked IsOnCell CellsReport line start number text end
  plain_asked start number line cell (ClaimRequest (Report report)) text end asked is =
      record { what = record { cell = cell; report = report }; asked = asked; answer = plain_reply (slice_get start cell) start number cell report text end is }
  plain_asked start number line cell (ClaimRequest (FinishStep job step at)) text end asked is = absurd asked
  plain_asked start number line cell (ClaimRequest (CleanAfter machine job at)) text end asked is = absurd asked
  plain_asked start number line cell (ClaimRequest (CleanAfterStep machine job step at)) text end asked is = absurd asked
  plain_asked start number line cell Status text end asked is = absurd asked

pub plainly_as_ever : PlainlyAsEver
plainly_as_ever p from =
    lines_so (AsksFor false) IsReportLine (CellRequests p (plain_from from)) (CellReports p) (λ line none report asked. none (ClaimRequest (Report report)) asked) (plain_request from p)

pub plainly_as_ever_for_cells : PlainlyAsEverForCells
plainly_as_ever_for_cells from =
    lines_so (AsksOf false) IsOnCell (CellsReply (plain_from from)) CellsReport (λ line none on asked. none (record { cell = on.cell; request = ClaimRequest (Report on.report) }) asked)
    (λ start number line what. plain_asked from start number line what.cell what.request)
