-- By each protocol an input has one answer text.
use Rattle.std.proofs.Common.{◌≡◌, ◌↔◌, ◌⊎◌, ℕ, suc, ◌+◌, List, [], ◌∷◌, ◌++◌, set, map, Bool, true, false, Option, Some, None, Result, Err, refl, sym, ap, ◌∙◌, subst, inl, inr}
use Rattle.std.specs.Prelude.{slice_get}
use Rattle.shop_base.specs.{declared.move_order.MoveOrder.MoveOrder, Plan.{PlannedShop, IsWellShaped}, Cell.Cell}
use Rattle.shop_base.specs.{Run.IsAtRest, Controlled.{after_step, step_orders}, Sound.IsSound}
use Rattle.shop_base.proofs.{Keeping.start-sound, ControlledRuns.{start_at_rest, after_step-sound}, OneStep.one_step}
use Rattle.plan_verifier.specs.Accepted.{VerifiedPlan}
use Rattle.cell_tables.specs.declared.entry.Entry.{Entry, TheVariants.{Report as ReportEntry, Order as OrderEntry}}
use Rattle.byte_streams.specs.{declared.drive_fault.DriveFault.{DriveFault, TheVariants.Memory}, Lent.Streams}
use Rattle.byte_streams.specs.{Lines.input_lines, Answering.AnswerAll}
use Rattle.cell_tables.specs.{Claims.claimed, declared.claim.Claim.{Claim, TheVariants.{Report, FinishStep, CleanAfter, CleanAfterStep}}}
use Rattle.event_lines.specs.{StandingLines.refused_detail_line, SentLines.cell_prefix}
use Rattle.event_lines.specs.declared.requests.Request.{Request, TheVariants.{Claim as ClaimRequest, Status}}
use Rattle.event_lines.proofs.Readings.{one_report, one_request, one_cell_report, one_cell_request}
use Rattle.cell_drive.specs.{declared.protocol.Protocol.Protocol, declared.refusals.Refusal.Refusal}
use Rattle.cell_drive.specs.{declared.hub.HubEnd.HubEnd, Refusals.{refusal_word, refusal_detail}}
use Rattle.cell_drive.specs.{LineAnswers.{LineAnswer, IsClosingLine}, AnswerText.{DrivenCell, undriven, CellCloses}}
use Rattle.cell_drive.specs.ProtocolText.{AsksFor, IsClaimRefused, IsClaimAccepted, RequestAnswer, CellRequests, refusal_prefix, ProtocolAnswers, acceptance_lines, prints_end, printed_overdue}
use Rattle.cell_drive.specs.{ProtocolLaw.{OneAnswerText, OneTextForLines}, Numbers.{IsInRun, AreInRun}}
use Rattle.cell_drive.specs.ManyCells.{HubCell, CellsClose, hub_start}
use Rattle.cell_drive.specs.ProtocolCells.{AsksCell, AsksOf, OfCell, IsReplyIn, CellsReply, AreDrivesIn, hub_of_plans}
use Rattle.cell_drive.specs.ProtocolCellsLaw.{OneCellsTextForLines, OneCellsText}
use Rattle.cell_drive.proofs.ManyCells.{start_in_run, one_in_run, set_in_run}
use Rattle.cell_drive.proofs.Refusing.{one_refusal, refused_or_admissible}

-- ---- lines, whatever they ask for

module _ {S Q : Type 0} (asks : List ℕ → Q → Type 0) (answers : S → ℕ → Q → List ℕ → S → Type 0) (Keeps : S → Type 0)
    (one_asked : (line : List ℕ) (what other : Q) → asks line what → asks line other → other ≡ what)
    (one_answer : (start : S) (number : ℕ) (what : Q) (text other : List ℕ) (end last : S) → Keeps start → answers start number what text end → answers start number what other last → (other ≡ text) × (last ≡ end))
    (keeps : (start : S) (number : ℕ) (what : Q) (text : List ℕ) (end : S) → Keeps start → answers start number what text end → Keeps end) where
  one_line : (start : S) (number : ℕ) (line : Option (List ℕ)) (text other : List ℕ) (end last : S) → Keeps start
      → LineAnswer asks answers start number line text end → LineAnswer asks answers start number line other last → (other ≡ text) × (last ≡ end)
  one_line start number None text other end last kept one also = (also.text_is ∙ sym one.text_is, also.end_is ∙ sym one.end_is)
  one_line start number (Some []) text other end last kept one also = (also.text_is ∙ sym one.text_is, also.end_is ∙ sym one.end_is)
  one_line start number (Some (b ∷ line)) text other end last kept (inl one) (inl also) = (also.1.text_is ∙ sym one.1.text_is, also.1.end_is ∙ sym one.1.end_is)
  one_line start number (Some (b ∷ line)) text other end last kept (inl one) (inr also) = absurd (one.0 also.what also.asked)
  one_line start number (Some (b ∷ line)) text other end last kept (inr one) (inl also) = absurd (also.0 one.what one.asked)
  one_line start number (Some (b ∷ line)) text other end last kept (inr one) (inr also) =
      let same = one_asked (b ∷ line) one.what also.what one.asked also.asked in
      one_answer start number one.what text other end last kept one.answer (subst (λ (q : Q). answers start number q other last) same also.answer)

  pub line_keeps : (start : S) (number : ℕ) (line : Option (List ℕ)) (text : List ℕ) (end : S) → Keeps start → LineAnswer asks answers start number line text end → Keeps end
  line_keeps start number None text end kept is = subst Keeps (sym is.end_is) kept
  line_keeps start number (Some []) text end kept is = subst Keeps (sym is.end_is) kept
  line_keeps start number (Some (b ∷ line)) text end kept (inl is) = subst Keeps (sym is.1.end_is) kept
  line_keeps start number (Some (b ∷ line)) text end kept (inr is) = keeps start number is.what text end kept is.answer

  pub one_text : (lines : List (Option (List ℕ))) (start end last : S) (number : ℕ) (text other : List ℕ) → Keeps start
      → AnswerAll (LineAnswer asks answers) start number lines text end → AnswerAll (LineAnswer asks answers) start number lines other last → (other ≡ text) × (last ≡ end)
  one_text [] start end last number text other kept all also = (also.0 ∙ sym all.0, also.1 ∙ sym all.1)
  one_text (line ∷ lines) start end last number text other kept all also =
      let one = one_line start number line all.0 also.0 all.2 also.2 kept all.3 also.3 in
      let others = one_text lines all.2 end last (number + 1) all.1 also.1 (line_keeps start number line all.0 all.2 kept all.3) all.4
      (subst (λ (s : S). AnswerAll (LineAnswer asks answers) s (number + 1) lines also.1 last) one.1 also.4) in
      (also.5 ∙ ap (λ (t : List ℕ). t ++ also.1) one.0 ∙ ap (λ (t : List ℕ). all.0 ++ t) others.0 ∙ sym all.5, others.1)

-- ---- requests to a cell

pub same_truth : {P : Type 0} (a b : Bool) → ((a ≡ false) ↔ P) → ((b ≡ false) ↔ P) → b ≡ a
same_truth true true one also = refl
same_truth true false one also = let wrong = one.1 (also.0 refl) in absurd (cc)
same_truth false true one also = let wrong = also.1 (one.0 refl) in absurd (cc)
same_truth false false one also = refl

-- as a cell can be in a run, and at rest
pub record IsOnCourse (p : PlannedShop) (c : Cell) : Type 0 where
  pub shaped : IsWellShaped p
  pub sound : IsSound p c
  pub rest : IsAtRest p c

pub record IsOne (text other : List ℕ) (events events' : List Entry) (next next' : Cell) : Type 0 where
  pub text_is : other ≡ text
  pub events_are : events' ≡ events
  pub next_is : next' ≡ next

one_asked : (version_2 : Bool) (line : List ℕ) (what other : Request) → AsksFor version_2 line what → AsksFor version_2 line other → other ≡ what
one_asked true line what other is also = one_request line what other is also
one_asked false line (ClaimRequest (Report report)) (ClaimRequest (Report other)) is also = ap (λ r. ClaimRequest (Report r)) (one_report line report other is also)
one_asked false line (ClaimRequest (Report report)) (ClaimRequest (FinishStep job step at)) is also = absurd also
one_asked false line (ClaimRequest (Report report)) (ClaimRequest (CleanAfter machine job at)) is also = absurd also
one_asked false line (ClaimRequest (Report report)) (ClaimRequest (CleanAfterStep machine job step at)) is also = absurd also
one_asked false line (ClaimRequest (Report report)) Status is also = absurd also
one_asked false line (ClaimRequest (FinishStep job step at)) other is also = absurd is
one_asked false line (ClaimRequest (CleanAfter machine job at)) other is also = absurd is
one_asked false line (ClaimRequest (CleanAfterStep machine job step at)) other is also = absurd is
one_asked false line Status other is also = absurd is

module _ (p : PlannedShop) (protocol : Protocol) (prefix : List ℕ) (c : Cell) (number : ℕ) (on : IsOnCourse p c) where
  one_claim_answer : (claim : Claim) (text other : List ℕ) (events events' : List Entry) (next next' : Cell)
      → IsClaimRefused p protocol (refusal_prefix protocol prefix) c number claim text events next ⊎ IsClaimAccepted p protocol prefix c claim text events next
      → IsClaimRefused p protocol (refusal_prefix protocol prefix) c number claim other events' next' ⊎ IsClaimAccepted p protocol prefix c claim other events' next' → IsOne text other events events' next next'
  one_claim_answer claim text other events events' next next' (inl one) (inl also) =
      let same : also.refusal ≡ one.refusal = one_refusal p c on.shaped on.sound protocol claim one.refusal also.refusal one.first also.first in
      record {
        text_is = also.text_is ∙ ap (λ (r : Refusal). refusal_prefix protocol prefix ++ refused_detail_line number (refusal_word r) (refusal_detail protocol p c (claimed p claim) r)) same ∙ sym one.text_is;
        events_are = also.events_are ∙ sym one.events_are;
        next_is = also.next_is ∙ sym one.next_is;
      }
  one_claim_answer claim text other events events' next next' (inl one) (inr also) = absurd (refused_or_admissible p c on.shaped on.sound protocol claim one.refusal one.first also.accepted)
  one_claim_answer claim text other events events' next next' (inr one) (inl also) = absurd (refused_or_admissible p c on.shaped on.sound protocol claim also.refusal also.first one.accepted)
  one_claim_answer claim text other events events' next next' (inr one) (inr also) =
      let r = claimed p claim in
      let only = one_step p c r on.shaped on.sound on.rest one.step.can in
      let moves : also.movers ≡ one.movers = only.2 also.movers also.step ∙ sym (only.2 one.movers one.step) in
      let orders : step_orders p c r also.movers ≡ step_orders p c r one.movers = ap (step_orders p c r) moves in
      let next_is : next' ≡ next = also.next_is ∙ ap (after_step p c r) moves ∙ sym one.next_is in
      let overdue = printed_overdue protocol p c (claimed p claim) in
      record {
        text_is = also.text_is
            ∙ ap (λ (l : Bool). acceptance_lines prefix (claimed p claim) l overdue (step_orders p c r also.movers) (prints_end protocol p next')) (same_truth one.late also.late one.late_is also.late_is)
            ∙ ap (λ (os : List MoveOrder). acceptance_lines prefix (claimed p claim) one.late overdue os (prints_end protocol p next')) orders
            ∙ ap (λ (x : Cell). acceptance_lines prefix (claimed p claim) one.late overdue (step_orders p c r one.movers) (prints_end protocol p x)) next_is
            ∙ sym one.text_is;
        events_are = also.events_are ∙ ap (λ (os : List MoveOrder). ReportEntry (claimed p claim) ∷ map OrderEntry os) orders ∙ sym one.events_are;
        next_is = next_is;
      }

  pub one_request_answer : (request : Request) (text other : List ℕ) (events events' : List Entry) (next next' : Cell)
      → RequestAnswer p protocol prefix c number request text events next → RequestAnswer p protocol prefix c number request other events' next' → IsOne text other events events' next next'
  one_request_answer (ClaimRequest claim) text other events events' next next' one also = one_claim_answer claim text other events events' next next' one also
  one_request_answer Status text other events events' next next' one also = record {
    text_is = also.text_is ∙ sym one.text_is;
    events_are = also.events_are ∙ sym one.events_are;
    next_is = also.next_is ∙ sym one.next_is;
  }

  pub request_keeps : (request : Request) (text : List ℕ) (events : List Entry) (next : Cell) → RequestAnswer p protocol prefix c number request text events next → IsOnCourse p next
  request_keeps (ClaimRequest claim) text events next (inl is) = subst (IsOnCourse p) (sym is.next_is) on
  request_keeps (ClaimRequest claim) text events next (inr is) =
      subst (IsOnCourse p) (sym is.next_is) (record { shaped = on.shaped; sound = after_step-sound p c (claimed p claim) is.movers on.shaped on.sound is.step; rest = is.step.quiescent })
  request_keeps Status text events next is = subst (IsOnCourse p) (sym is.next_is) on

-- ---- lines of one cell

abbrev IsDrivenOn : PlannedShop → DrivenCell → Type 0
IsDrivenOn p d = IsOnCourse p d.cell

module _ (p : PlannedShop) (protocol : Protocol) where
  one_requested : (start : DrivenCell) (number : ℕ) (request : Request) (text other : List ℕ) (end last : DrivenCell) → IsDrivenOn p start
      → CellRequests p protocol start number request text end → CellRequests p protocol start number request other last → (other ≡ text) × (last ≡ end)
  one_requested start number request text other end last on one also =
      let same = one_request_answer p protocol [] start.cell number on request text other one.more also.more end.cell last.cell one.answer also.answer in
      let entries : last.entries ≡ end.entries = also.entries ∙ ap (λ (es : List Entry). start.entries ++ es) same.events_are ∙ sym one.entries in
      (same.text_is, ap (λ (x : Cell). record { cell = x; entries = last.entries }) same.next_is ∙ ap (λ (es : List Entry). record { cell = end.cell; entries = es }) entries)

  requested_keeps : (start : DrivenCell) (number : ℕ) (request : Request) (text : List ℕ) (end : DrivenCell) → IsDrivenOn p start → CellRequests p protocol start number request text end → IsDrivenOn p end
  requested_keeps start number request text end on is = request_keeps p protocol [] start.cell number on request text is.more end.cell is.answer

  pub protocol_lines_keep : (start : DrivenCell) (number : ℕ) (line : Option (List ℕ)) (text : List ℕ) (end : DrivenCell) → IsOnCourse p start.cell
      → ProtocolAnswers p protocol start number line text end → IsOnCourse p end.cell
  protocol_lines_keep start number line text end on is =
      line_keeps (AsksFor protocol.version_2) (CellRequests p protocol) (IsDrivenOn p) (one_asked protocol.version_2) one_requested requested_keeps start number line text end on is

  pub one_lines_text : (lines : List (Option (List ℕ))) (start end last : DrivenCell) (number : ℕ) (text other : List ℕ) → IsOnCourse p start.cell
      → AnswerAll (ProtocolAnswers p protocol) start number lines text end → AnswerAll (ProtocolAnswers p protocol) start number lines other last → (other ≡ text) × (last ≡ end)
  one_lines_text lines start end last number text other on all also =
      one_text (AsksFor protocol.version_2) (CellRequests p protocol) (IsDrivenOn p) (one_asked protocol.version_2) one_requested requested_keeps lines start end last number text other on all also

pub start_on_course : (p : PlannedShop) → IsWellShaped p → IsOnCourse p (undriven p).cell
start_on_course p shaped = record { shaped = shaped; sound = start-sound p shaped; rest = start_at_rest p }

pub one_closing : (p : PlannedShop) (c : Cell) (text other : List ℕ) → IsClosingLine p c text → IsClosingLine p c other → other ≡ text
one_closing p c text other (inl ended) (inl also) = also.1 ∙ sym ended.1
one_closing p c text other (inl ended) (inr not_so) = absurd (not_so.0 ended.0)
one_closing p c text other (inr unfinished) (inl not_so) = absurd (unfinished.0 not_so.0)
one_closing p c text other (inr unfinished) (inr also) = also.1 ∙ sym unfinished.1

pub one_text_for_lines : OneTextForLines
one_text_for_lines p protocol lines text other end last shaped all also = one_lines_text p protocol lines (undriven p) end last 1 text other (start_on_course p shaped) all also

-- with the closing line
pub one_closed : (p : PlannedShop) (end last : DrivenCell) (answers answers' closing closing' : List ℕ) → CellCloses p end closing → CellCloses p last closing' → (answers' ≡ answers) × (last ≡ end)
    → answers' ++ closing' ≡ answers ++ closing
one_closed p end last answers answers' closing closing' is also same =
    let line = one_closing p end.cell closing closing' is (subst (λ (d : DrivenCell). CellCloses p d closing') same.1 also) in
    ap (λ (t : List ℕ). t ++ closing') same.0 ∙ ap (λ (t : List ℕ). answers ++ t) line

pub one_answer_text : OneAnswerText
one_answer_text p protocol input text other end last shaped is also =
    let one = one_text_for_lines p protocol (input_lines input) is.answers also.answers end last shaped is.are_answers also.are_answers in
    (also.whole ∙ one_closed p end last is.answers also.answers is.closing also.closing is.is_closing also.is_closing one ∙ sym is.whole, one.1)

-- ---- many cells

pub on_course : (c : HubCell) → IsInRun c → IsOnCourse c.plan.planned c.cell
on_course c is = record { shaped = is.verified.schedule.shaped; sound = is.sound; rest = is.rest }

pub one_closing_text : (cells : List HubCell) (number : ℕ) (text other : List ℕ) → CellsClose number cells text → CellsClose number cells other → other ≡ text
one_closing_text [] number text other is also = also ∙ sym is
one_closing_text (c ∷ cells) number text other is also =
    let line = one_closing c.plan.planned c.cell is.0 also.0 is.2 also.2 in
    let rest = one_closing_text cells (suc number) is.1 also.1 is.3 also.3 in
    also.4 ∙ ap (λ (l : List ℕ). (cell_prefix number ++ l) ++ also.1) line ∙ ap (λ (t : List ℕ). (cell_prefix number ++ is.0) ++ t) rest ∙ sym is.4

pub one_asked_of : (version_2 : Bool) (line : List ℕ) (cell cell' : ℕ) (request other : Request) → AsksCell version_2 line cell request → AsksCell version_2 line cell' other → (cell' ≡ cell) × (other ≡ request)
one_asked_of true line cell cell' request other is also = one_cell_request line cell cell' request other is also
one_asked_of false line cell cell' (ClaimRequest (Report report)) (ClaimRequest (Report other)) is also =
    let same = one_cell_report line cell cell' report other is also in (same.0, ap (λ r. ClaimRequest (Report r)) same.1)
one_asked_of false line cell cell' (ClaimRequest (Report report)) (ClaimRequest (FinishStep job step at)) is also = absurd also
one_asked_of false line cell cell' (ClaimRequest (Report report)) (ClaimRequest (CleanAfter machine job at)) is also = absurd also
one_asked_of false line cell cell' (ClaimRequest (Report report)) (ClaimRequest (CleanAfterStep machine job step at)) is also = absurd also
one_asked_of false line cell cell' (ClaimRequest (Report report)) Status is also = absurd also
one_asked_of false line cell cell' (ClaimRequest (FinishStep job step at)) other is also = absurd is
one_asked_of false line cell cell' (ClaimRequest (CleanAfter machine job at)) other is also = absurd is
one_asked_of false line cell cell' (ClaimRequest (CleanAfterStep machine job step at)) other is also = absurd is
one_asked_of false line cell cell' Status other is also = absurd is

one_asked_cell : (version_2 : Bool) (line : List ℕ) (asked other : OfCell) → AsksOf version_2 line asked → AsksOf version_2 line other → other ≡ asked
one_asked_cell version_2 line asked other is also =
    let same = one_asked_of version_2 line asked.cell other.cell asked.request other.request is also in
    ap (λ (k : ℕ). record { cell = k; request = other.request }) same.0 ∙ ap (λ (r : Request). record { cell = asked.cell; request = r }) same.1

module _ (protocol : Protocol) where
  one_in : (o : Option HubCell) (cells : List HubCell) (number : ℕ) (asked : OfCell) (text other : List ℕ) (end last : List HubCell) → ((c : HubCell) → o ≡ Some c → IsInRun c)
      → IsReplyIn protocol o cells number asked text end → IsReplyIn protocol o cells number asked other last → (other ≡ text) × (last ≡ end)
  one_in None cells number asked text other end last in_run one also = (also.text_is ∙ sym one.text_is, also.end_is ∙ sym one.end_is)
  one_in (Some c) cells number asked text other end last in_run one also =
      let same = one_request_answer c.plan.planned protocol (cell_prefix asked.cell) c.cell number (on_course c (in_run c refl)) asked.request text other one.events also.events one.next also.next one.answer also.answer in
      (same.text_is, also.end_is ∙ ap (λ (x : Cell). set cells asked.cell (record { plan = c.plan; cell = x })) same.next_is ∙ sym one.end_is)

  one_of_cells : (cells : List HubCell) (number : ℕ) (asked : OfCell) (text other : List ℕ) (end last : List HubCell) → AreInRun cells
      → CellsReply protocol cells number asked text end → CellsReply protocol cells number asked other last → (other ≡ text) × (last ≡ end)
  one_of_cells cells number asked text other end last in_run one also =
      one_in (slice_get cells asked.cell) cells number asked text other end last (λ c found. one_in_run cells asked.cell c in_run found) one also

  keeps_in : (o : Option HubCell) (cells : List HubCell) (number : ℕ) (asked : OfCell) (text : List ℕ) (end : List HubCell) → AreInRun cells → ((c : HubCell) → o ≡ Some c → IsInRun c)
      → IsReplyIn protocol o cells number asked text end → AreInRun end
  keeps_in None cells number asked text end all in_run is = subst AreInRun (sym is.end_is) all
  keeps_in (Some c) cells number asked text end all in_run is =
      let kept = in_run c refl in
      let next = request_keeps c.plan.planned protocol (cell_prefix asked.cell) c.cell number (on_course c kept) asked.request text is.events is.next is.answer in
      subst AreInRun (sym is.end_is) (set_in_run cells asked.cell (record { plan = c.plan; cell = is.next }) all (record { verified = kept.verified; sound = next.sound; rest = next.rest }))

  pub replies_keep : (cells : List HubCell) (number : ℕ) (asked : OfCell) (text : List ℕ) (end : List HubCell) → AreInRun cells → CellsReply protocol cells number asked text end → AreInRun end
  replies_keep cells number asked text end all is = keeps_in (slice_get cells asked.cell) cells number asked text end all (λ c found. one_in_run cells asked.cell c all found) is

pub one_cells_text_for_lines : OneCellsTextForLines
one_cells_text_for_lines plans protocol lines text other end last verified all also =
    one_text (AsksOf protocol.version_2) (CellsReply protocol) AreInRun (one_asked_cell protocol.version_2) (one_of_cells protocol) (replies_keep protocol) lines (hub_start plans) end last 1 text other (start_in_run plans verified) all also

pub one_cells_text : OneCellsText
one_cells_text plans protocol input text other end last verified is also =
    let one = one_cells_text_for_lines plans protocol (input_lines input) is.answers also.answers end last verified is.are_answers also.are_answers in
    let closing = one_closing_text end 0 is.closing also.closing is.is_closing (subst (λ (s : List HubCell). CellsClose 0 s also.closing) one.1 also.is_closing) in
    (also.whole ∙ ap (λ (t : List ℕ). t ++ also.closing) one.0 ∙ ap (λ (t : List ℕ). is.answers ++ t) closing ∙ sym is.whole, one.1)

-- where memory ran out before the first byte was read
pub undriven_hub : (plans : List VerifiedPlan) (protocol : Protocol) (streams : Streams) (outcome : Result HubEnd DriveFault) → outcome ≡ Err Memory → AreDrivesIn protocol plans streams streams outcome
undriven_hub plans protocol streams outcome is =
    subst (AreDrivesIn protocol plans streams streams) (sym is) (record { end = hub_of_plans protocol plans; streamed = refl; done = tt; verified = tt })
