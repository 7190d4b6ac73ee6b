-- Version 2 of the lines only adds to what a cell, and those of a hub, answer in version 1.
use Rattle.std.proofs.Common.{◌≡◌, ℕ, ◌+◌, List, [], ◌∷◌, ◌++◌, codes, Bool, true, false, Option, None, Some, refl, sym, subst, inl, inr}
use Rattle.std.specs.Prelude.{slice_get}
use Rattle.shop_base.specs.{declared.move_order.MoveOrder.MoveOrder, Plan.PlannedShop, Cell.Cell}
use Rattle.shop_base.specs.Controlled.{step_orders}
use Rattle.byte_streams.specs.Answering.{AnswerAll}
use Rattle.cell_tables.specs.declared.{claim.Claim.TheVariants.{Report, FinishStep, CleanAfter, CleanAfterStep}, entry.Entry.Entry}
use Rattle.event_lines.specs.declared.details.{Detail.{Detail, TheVariants.Nothing}, Overdue.Overdue}
use Rattle.event_lines.specs.declared.requests.Request.{Request}
use Rattle.event_lines.specs.declared.requests.Request.TheVariants.{Claim as ClaimRequest, Status}
use Rattle.event_lines.specs.{AnswerLines.refused_line, StandingLines.refused_detail_line, SentLines.cell_prefix}
use Rattle.cell_drive.specs.{Refusals.{refusal_word, refusal_detail}, AnswerText.DrivenCell, ManyCells.HubCell}
use Rattle.cell_drive.specs.{LineAnswers.{IsAsked, LineAnswer}, ProtocolCells.{AsksCell, AsksOf, CellsReply, IsReplyIn}}
use Rattle.cell_drive.specs.ProtocolText.{AsksFor, CellRequests, RequestAnswer, acceptance_lines, prints_end, printed_overdue}
use Rattle.drive_laws.specs.VersionsLaw.{IsOfVersion1, AreOfVersion1, IsPlainText, nothing_more, refused, accepted, in_version, Version2OnlyAdds}
use Rattle.drive_laws.specs.CellsVersionsLaw.{AsksInVersion1, AskInVersion1, IsPlainCellsText, refused_by, accepted_by, Version2OnlyAddsForCells, nothing_more as nothing_more_of_cells, refused as refused_of_cells}
use Rattle.shop_base.specs.declared.report.Report as reports

-- what version 1 answers in place of a text, and how further texts go on behind both
record InPlace (IsPlain : List ℕ → List ℕ → Type 0) (answered : List ℕ → Type 0) (text : List ℕ) : Type 0 where
  other : List ℕ
  answer : answered other
  plain : (more others : List ℕ) → IsPlain more others → IsPlain (text ++ more) (other ++ others)

in_place : {IsPlain : List ℕ → List ℕ → Type 0} {answered : List ℕ → Type 0} {text : List ℕ} (whole other : List ℕ) → text ≡ whole → answered other
    → ((more others : List ℕ) → IsPlain more others → IsPlain (whole ++ more) (other ++ others)) → InPlace IsPlain answered text
in_place {IsPlain} whole other is answer plain =
    record { other = other; answer = answer; plain = λ more others rest. subst (λ (t : List ℕ). IsPlain (t ++ more) (other ++ others)) (sym is) (plain more others rest) }

-- ---- a report

module _ (p : PlannedShop) (max_gap : Option ℕ) (from : ℕ) (prefix : List ℕ) (IsPlain : List ℕ → List ℕ → Type 0)
    (refused_so : (number : ℕ) (name : List ℕ) (detail : Detail) (more others : List ℕ) → IsPlain more others → IsPlain ((prefix ++ refused_detail_line number name detail) ++ more) (refused_line number name ++ others))
    (accepted_so : (report : reports.Report) (late : Bool) (overdue : Option Overdue) (orders : List MoveOrder) (ended : Bool) (more others : List ℕ) → IsPlain more others
    → IsPlain (acceptance_lines prefix report late overdue orders ended ++ more) (acceptance_lines prefix report late None orders false ++ others)) where
  report_in_place : (c : Cell) (number : ℕ) (report : reports.Report) (text : List ℕ) (events : List Entry) (next : Cell) → RequestAnswer p (in_version true max_gap from) prefix c number (ClaimRequest (Report report)) text events next
      → InPlace IsPlain (λ other. RequestAnswer p (in_version false max_gap from) prefix c number (ClaimRequest (Report report)) other events next) text
  report_in_place c number report text events next (inl is) =
      in_place (prefix ++ refused_detail_line number (refusal_word is.refusal) (refusal_detail (in_version true max_gap from) p c report is.refusal)) (refused_line number (refusal_word is.refusal)) is.text_is
      (inl (record { refusal = is.refusal; first = is.first; text_is = refl; events_are = is.events_are; next_is = is.next_is }))
      (refused_so number (refusal_word is.refusal) (refusal_detail (in_version true max_gap from) p c report is.refusal))
  report_in_place c number report text events next (inr is) =
      let orders = step_orders p c report is.movers in
      let overdue = printed_overdue (in_version true max_gap from) p c report in
      let ended = prints_end (in_version true max_gap from) p next in
      in_place (acceptance_lines prefix report is.late overdue orders ended) (acceptance_lines prefix report is.late None orders false) is.text_is
      (inr (record { accepted = is.accepted; movers = is.movers; step = is.step; late = is.late; late_is = is.late_is; text_is = refl; events_are = is.events_are; next_is = is.next_is }))
      (accepted_so report is.late overdue orders ended)

-- ---- lines

-- of what lines ask in version 2 version 1 has some, and answers it in place
module _ {S Q : Type 0} (asks fewer : List ℕ → Q → Type 0) (answers others : S → ℕ → Q → List ℕ → S → Type 0) (IsPlain : List ℕ → List ℕ → Type 0) (nothing : IsPlain [] [])
    (refused_so : (number : ℕ) (name more others : List ℕ) → IsPlain more others → IsPlain (refused_line number name ++ more) (refused_line number name ++ others))
    (has_fewer : (line : List ℕ) (what : Q) → fewer line what → asks line what) (IsOf : Option (List ℕ) → Type 0) (AreOf : List (Option (List ℕ)) → Type 0)
    (are_of : (line : Option (List ℕ)) (lines : List (Option (List ℕ))) → AreOf (line ∷ lines) → IsOf line × AreOf lines)
    (asked_so : (start : S) (number : ℕ) (line : List ℕ) (what : Q) (text : List ℕ) (end : S) → IsOf (Some line) → asks line what → answers start number what text end
    → InPlace IsPlain (λ other. IsAsked fewer others line start number other end) text) where
  line_in_place : (start : S) (number : ℕ) (line : Option (List ℕ)) (text : List ℕ) (end : S) → IsOf line → LineAnswer asks answers start number line text end
      → InPlace IsPlain (λ other. LineAnswer fewer others start number line other end) text
  line_in_place start number None text end of is =
      let line = refused_line number (codes "LongLine") in
      in_place line line is.text_is (record { text_is = refl; end_is = is.end_is }) (refused_so number (codes "LongLine"))
  line_in_place start number (Some []) text end of is =
      in_place [] [] is.text_is (record { text_is = refl; end_is = is.end_is }) (λ more others rest. rest)
  line_in_place start number (Some (b ∷ line)) text end of (inl is) =
      let bad = refused_line number (codes "BadLine") in
      in_place bad bad is.1.text_is
      (inl (λ what asked. is.0 what (has_fewer (b ∷ line) what asked), record { text_is = refl; end_is = is.1.end_is })) (refused_so number (codes "BadLine"))
  line_in_place start number (Some (b ∷ line)) text end of (inr is) =
      let one = asked_so start number (b ∷ line) is.what text end of is.asked is.answer in
      record { other = one.other; answer = inr one.answer; plain = one.plain }

  lines_in_place : (lines : List (Option (List ℕ))) (number : ℕ) (text : List ℕ) (start end : S) → AreOf lines → AnswerAll (LineAnswer asks answers) start number lines text end
      → (other : List ℕ) × AnswerAll (LineAnswer fewer others) start number lines other end × IsPlain text other
  lines_in_place [] number text start end of all = ([], (refl, all.1), subst (λ (t : List ℕ). IsPlain t []) (sym all.0) nothing)
  lines_in_place (line ∷ lines) number text start end of all =
      let (first, others_of) = are_of line lines of in
      let one = line_in_place start number line all.0 all.2 first all.3 in
      let rest = lines_in_place lines (number + 1) all.1 all.2 end others_of all.4 in
      (one.other ++ rest.0, (one.other, rest.0, all.2, one.answer, rest.1, refl), subst (λ (t : List ℕ). IsPlain t (one.other ++ rest.0)) (sym all.5) (one.plain all.1 rest.0 rest.2))

-- ---- a cell

asks_fewer : (line : List ℕ) (request : Request) → AsksFor false line request → AsksFor true line request
asks_fewer line (ClaimRequest (Report report)) asked = asked
asks_fewer line (ClaimRequest (FinishStep job step at)) asked = absurd asked
asks_fewer line (ClaimRequest (CleanAfter machine job at)) asked = absurd asked
asks_fewer line (ClaimRequest (CleanAfterStep machine job step at)) asked = absurd asked
asks_fewer line Status asked = absurd asked

module _ (p : PlannedShop) (max_gap : Option ℕ) (from : ℕ) where
  asked_in_place : (start : DrivenCell) (number : ℕ) (line : List ℕ) (request : Request) (text : List ℕ) (end : DrivenCell) → IsOfVersion1 (Some line) → AsksFor true line request
      → CellRequests p (in_version true max_gap from) start number request text end
      → InPlace IsPlainText (λ other. IsAsked (AsksFor false) (CellRequests p (in_version false max_gap from)) line start number other end) text
  asked_in_place start number line (ClaimRequest (Report report)) text end of asked is =
      let one = report_in_place p max_gap from [] IsPlainText refused accepted start.cell number report text is.more end.cell is.answer in
      record { other = one.other; answer = record { what = ClaimRequest (Report report); asked = asked; answer = record { more = is.more; answer = one.answer; entries = is.entries } }; plain = one.plain }
  asked_in_place start number line (ClaimRequest (FinishStep job step at)) text end of asked is = let no = (of line (ClaimRequest (FinishStep job step at)) refl asked).1 in absurd (cc)
  asked_in_place start number line (ClaimRequest (CleanAfter machine job at)) text end of asked is = let no = (of line (ClaimRequest (CleanAfter machine job at)) refl asked).1 in absurd (cc)
  asked_in_place start number line (ClaimRequest (CleanAfterStep machine job step at)) text end of asked is = let no = (of line (ClaimRequest (CleanAfterStep machine job step at)) refl asked).1 in absurd (cc)
  asked_in_place start number line Status text end of asked is = let no = (of line Status refl asked).1 in absurd (cc)

pub version_2_only_adds : Version2OnlyAdds
version_2_only_adds p max_gap from number lines text start end of all =
    lines_in_place (AsksFor true) (AsksFor false) (CellRequests p (in_version true max_gap from)) (CellRequests p (in_version false max_gap from)) IsPlainText nothing_more
    (λ number name more others rest. refused number name Nothing more others rest) asks_fewer IsOfVersion1 AreOfVersion1 (λ line lines of. of) (asked_in_place p max_gap from) lines number text start end of all

-- ---- the cells of a hub

module _ (max_gap : Option ℕ) (from : ℕ) where
  answered_in_place : (o : Option HubCell) (cells : List HubCell) (number cell : ℕ) (report : reports.Report) (text : List ℕ) (end : List HubCell)
      → IsReplyIn (in_version true max_gap from) o cells number (record { cell = cell; request = ClaimRequest (Report report) }) text end
      → InPlace IsPlainCellsText (λ other. IsReplyIn (in_version false max_gap from) o cells number (record { cell = cell; request = ClaimRequest (Report report) }) other end) text
  answered_in_place None cells number cell report text end is =
      let line = refused_line number (codes "NoSuchCell") in
      in_place line line is.text_is
      (record { text_is = refl; end_is = is.end_is }) (refused_of_cells number (codes "NoSuchCell"))
  answered_in_place (Some c) cells number cell report text end is =
      let one = report_in_place c.plan.planned max_gap from (cell_prefix cell) IsPlainCellsText (refused_by cell) (accepted_by cell) c.cell number report text is.events is.next is.answer in
      record { other = one.other; answer = record { events = is.events; next = is.next; answer = one.answer; end_is = is.end_is }; plain = one.plain }

  request_in_place : (start : List HubCell) (number : ℕ) (line : List ℕ) (cell : ℕ) (request : Request) (text : List ℕ) (end : List HubCell) → AsksInVersion1 (Some line) → AsksCell true line cell request
      → CellsReply (in_version true max_gap from) start number (record { cell = cell; request = request }) text end
      → InPlace IsPlainCellsText (λ other. IsAsked (AsksOf false) (CellsReply (in_version false max_gap from)) line start number other end) text
  request_in_place start number line cell (ClaimRequest (Report report)) text end of asked is =
      let one = answered_in_place (slice_get start cell) start number cell report text end is in
      record { other = one.other; answer = record { what = record { cell = cell; request = ClaimRequest (Report report) }; asked = asked; answer = one.answer }; plain = one.plain }
  request_in_place start number line cell (ClaimRequest (FinishStep job step at)) text end of asked is = let no = (of line cell (ClaimRequest (FinishStep job step at)) refl asked).1 in absurd (cc)
  request_in_place start number line cell (ClaimRequest (CleanAfter machine job at)) text end of asked is = let no = (of line cell (ClaimRequest (CleanAfter machine job at)) refl asked).1 in absurd (cc)
  request_in_place start number line cell (ClaimRequest (CleanAfterStep machine job step at)) text end of asked is = let no = (of line cell (ClaimRequest (CleanAfterStep machine job step at)) refl asked).1 in absurd (cc)
  request_in_place start number line cell Status text end of asked is = let no = (of line cell Status refl asked).1 in absurd (cc)

cell_asks_fewer : (line : List ℕ) (cell : ℕ) (request : Request) → AsksCell false line cell request → AsksCell true line cell request
cell_asks_fewer line cell (ClaimRequest (Report report)) asked = asked
cell_asks_fewer line cell (ClaimRequest (FinishStep job step at)) asked = absurd asked
cell_asks_fewer line cell (ClaimRequest (CleanAfter machine job at)) asked = absurd asked
cell_asks_fewer line cell (ClaimRequest (CleanAfterStep machine job step at)) asked = absurd asked
cell_asks_fewer line cell Status asked = absurd asked

pub version_2_only_adds_for_cells : Version2OnlyAddsForCells
version_2_only_adds_for_cells max_gap from number lines text start end of all =
    lines_in_place (AsksOf true) (AsksOf false) (CellsReply (in_version true max_gap from)) (CellsReply (in_version false max_gap from)) IsPlainCellsText nothing_more_of_cells refused_of_cells
    (λ line of. cell_asks_fewer line of.cell of.request) AsksInVersion1 AskInVersion1 (λ line lines of. of) (λ start number line what. request_in_place max_gap from start number line what.cell what.request) lines number text start end of all
