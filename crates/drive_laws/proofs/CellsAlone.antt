-- Each of several driven cells is as alone: it answers what lines ask of it as it would by itself, and as with a controller alone.
use Rattle.std.proofs.Common.{◌≡◌, ◌==◌, ℕ, zero, suc, ◌+◌, ◌≤◌, List, [], ◌∷◌, ◌++◌, set, Bool, true, false, Option, Some, None, refl, sym, ap, ◌∙◌, subst, arith, inl, inr, ◌⊎◌, ◌↔◌, cond, append-nil}
use Rattle.std.proofs.lemmas.Bool.{eqb-true, eqb-false, cases_Bool, cases_lt}
use Rattle.std.specs.{Prelude.{slice_get, IsTrue}, List.flat_map}
use Rattle.shop_base.specs.{declared.move_order.MoveOrder.MoveOrder, Cell.{Cell, start}, Report.at, Plan.PlannedShop}
use Rattle.shop_base.specs.{Run.{Event, Reported}, Controlled.{moved, step_orders, done}, ReportsLeft.reports_left}
use Rattle.shop_base.proofs.ReportsLeft.{start-reports_left, after_step-reports_left}
use Rattle.shop_base.proofs.StatedNumber.{ends_on_the_stated_number-holds}
use Rattle.byte_streams.specs.Answering.{AnswerAll}
use Rattle.plan_verifier.specs.Accepted.{VerifiedPlan, IsVerified}
use Rattle.cell_tables.specs.{declared.claim.Claim.TheVariants.{Report, FinishStep, CleanAfter, CleanAfterStep}, declared.entry.Entry.Entry, Events.events_of}
use Rattle.cell_control.specs.Control.{Control, IsAnswered, control_at_start}
use Rattle.cell_control.specs.Promises.{IsCalled, AreCalled, not_yet, once_more, IsControllerAfter}
use Rattle.cell_control.proofs.{Promises.calls_make_the_controlled_run, Reasons.reason-cannot}
use Rattle.event_lines.specs.declared.requests.Request.{TheVariants.{Claim as ClaimRequest, Status}, Request}
use Rattle.event_lines.specs.SentLines.{cell_prefix}
use Rattle.event_lines.specs.{AnswerLines.late_line, EventLines.{report_line, order_line}}
use Rattle.cell_drive.specs.declared.{protocol.Protocol.Protocol, refusals.Refusal.TheVariants.Reason}
use Rattle.cell_drive.specs.{LineAnswers.ReportAnswer, ProtocolText.RequestAnswer, Protocols.plain_from}
use Rattle.cell_drive.specs.ManyCells.{CellsReport, CellsAnswer, HubCell, AreVerified, hub_start, cell_start, OnCell, IsOnCell, IsAnsweredIn}
use Rattle.cell_drive.specs.ProtocolCellsLaw.{EachProtocolCellIsAlone, AsksNotOf, SeesLines, none_left, asked, passed_over}
use Rattle.cell_drive.specs.ProtocolCells.{AsksCell, AsksOf, OfCell, IsReplyIn, CellsReply, ProtocolCellsAnswer}
use Rattle.cell_drive.specs.Refusals.{is_before_leap}
use Rattle.cell_drive.proofs.OneText.{IsOnCourse, one_asked_of, start_on_course, request_keeps}
use Rattle.cell_drive.proofs.{PromisesKept.stays_as_promised, CutLogs.{LeadsOn, answer_leads}}
use Rattle.drive_laws.specs.CellsAlone.{HaveReports, on_it, EachCellIsAsAlone, none_left as no_report_left, passed_over as not_on_it}
use Rattle.drive_laws.proofs.Plainly.{either_way, plain_report, lines_so}
use Rattle.shop_base.specs.declared.report.Report as reports
use Rattle.cell_control.specs.Promises as promise

-- ---- lines that ask nothing of a cell

no_empty : (version_2 : Bool) (k : ℕ) (request : Request) → AsksCell version_2 [] k request → ⊥
no_empty true k (ClaimRequest (Report report)) is = is.1
no_empty true k (ClaimRequest (FinishStep job step at)) is = is.1
no_empty true k (ClaimRequest (CleanAfter machine job at)) is = is.1
no_empty true k (ClaimRequest (CleanAfterStep machine job step at)) is = is.1
no_empty true k Status is = is.1
no_empty false k (ClaimRequest (Report report)) is = is.1
no_empty false k (ClaimRequest (FinishStep job step at)) is = is
no_empty false k (ClaimRequest (CleanAfter machine job at)) is = is
no_empty false k (ClaimRequest (CleanAfterStep machine job step at)) is = is
no_empty false k Status is = is

module _ (version_2 : Bool) (k : ℕ) where
  long_not_of : AsksNotOf version_2 k None
  long_not_of words request same is = cc

  empty_not_of : AsksNotOf version_2 k (Some [])
  empty_not_of words request same is = let none : words ≡ [] = cc in no_empty version_2 k request (subst (λ (w : List ℕ). AsksCell version_2 w k request) none is)

  none_not_of : (line : List ℕ) → ((of : OfCell) → AsksOf version_2 line of → ⊥) → AsksNotOf version_2 k (Some line)
  none_not_of line none words request same is =
      let e : words ≡ line = cc in none (record { cell = k; request = request }) (subst (λ (w : List ℕ). AsksCell version_2 w k request) e is)

  other_not_of : (line : List ℕ) (of : OfCell) → AsksOf version_2 line of → (of.cell ≡ k → ⊥) → AsksNotOf version_2 k (Some line)
  other_not_of line of is_line differ words other same is =
      let e : words ≡ line = cc in
      differ (sym (one_asked_of version_2 line of.cell k of.request other is_line (subst (λ (w : List ℕ). AsksCell version_2 w k other) e is)).0)

-- ---- the cell of a number

set_same : (cells : List HubCell) (k : ℕ) (c next : HubCell) → slice_get cells k ≡ Some c → slice_get (set cells k next) k ≡ Some next
set_same [] k c next found = absurd (cc)
set_same (d ∷ cells) zero c next found = refl
set_same (d ∷ cells) (suc k) c next found = set_same cells k c next found

set_other : (cells : List HubCell) (cell k : ℕ) (next : HubCell) → (cell ≡ k → ⊥) → slice_get (set cells cell next) k ≡ slice_get cells k
set_other [] cell k next differ = refl
set_other (d ∷ cells) zero zero next differ = absurd (differ refl)
set_other (d ∷ cells) zero (suc k) next differ = refl
set_other (d ∷ cells) (suc cell) zero next differ = refl
set_other (d ∷ cells) (suc cell) (suc k) next differ = set_other cells cell k next (λ same. differ (ap suc same))

starts_at : (plans : List VerifiedPlan) (k : ℕ) (v : VerifiedPlan) → slice_get plans k ≡ Some v → slice_get (hub_start plans) k ≡ Some (cell_start v)
starts_at [] k v found = absurd (cc)
starts_at (w ∷ plans) zero v found = let same : w ≡ v = cc in ap (λ (x : VerifiedPlan). Some (cell_start x)) same
starts_at (w ∷ plans) (suc k) v found = starts_at plans k v found

verified_at : (plans : List VerifiedPlan) (k : ℕ) (v : VerifiedPlan) → AreVerified plans → slice_get plans k ≡ Some v → IsVerified v
verified_at [] k v verified found = absurd (cc)
verified_at (w ∷ plans) zero v verified found = let same : w ≡ v = cc in subst IsVerified same verified.0
verified_at (w ∷ plans) (suc k) v verified found = verified_at plans k v verified.1 found

-- ---- one line

-- the line asks something of the cell, which answers alone
record IsAskedOf (protocol : Protocol) (k : ℕ) (c : HubCell) (number : ℕ) (line : Option (List ℕ)) (next : List HubCell) : Type 0 where
  words : List ℕ
  is_it : Some words ≡ line
  request : Request
  asks : AsksCell protocol.version_2 words k request
  text : List ℕ
  events : List Entry
  cell : Cell
  answer : RequestAnswer c.plan.planned protocol (cell_prefix k) c.cell number request text events cell
  there : slice_get next k ≡ Some (record { plan = c.plan; cell = cell })

-- it asks nothing of it, and the cell stays
record IsPassed (protocol : Protocol) (k : ℕ) (c : HubCell) (line : Option (List ℕ)) (next : List HubCell) : Type 0 where
  not_of : AsksNotOf protocol.version_2 k line
  there : slice_get next k ≡ Some c

module _ (protocol : Protocol) (cells : List HubCell) (number k : ℕ) (c : HubCell) (found : slice_get cells k ≡ Some c) where
  abbrev Goes : Option (List ℕ) → List HubCell → Type 0
  Goes line next = IsAskedOf protocol k c number line next ⊎ IsPassed protocol k c line next

  same_cells : (line : Option (List ℕ)) (next : List HubCell) → AsksNotOf protocol.version_2 k line → next ≡ cells → Goes line next
  same_cells line next not_of same = inr (record { not_of = not_of; there = ap (λ (cs : List HubCell). slice_get cs k) same ∙ found })

  asked_by : (line : List ℕ) (request : Request) (text : List ℕ) (events : List Entry) (cell : Cell) (next : List HubCell) → AsksCell protocol.version_2 line k request
      → RequestAnswer c.plan.planned protocol (cell_prefix k) c.cell number request text events cell → next ≡ set cells k (record { plan = c.plan; cell = cell }) → IsAskedOf protocol k c number (Some line) next
  asked_by line request text events cell next asks answer end_is = record {
    words = line;
    is_it = refl;
    request = request;
    asks = asks;
    text = text;
    events = events;
    cell = cell;
    answer = answer;
    there = ap (λ (cs : List HubCell). slice_get cs k) end_is ∙ set_same cells k c (record { plan = c.plan; cell = cell }) found;
  }

  passed_by : (o : Option HubCell) (line : List ℕ) (of : OfCell) (text : List ℕ) (next : List HubCell) → (of.cell ≡ k → ⊥) → AsksOf protocol.version_2 line of → IsReplyIn protocol o cells number of text next → Goes (Some line) next
  passed_by None line of text next differ is_line is = same_cells (Some line) next (other_not_of protocol.version_2 k line of is_line differ) is.end_is
  passed_by (Some other) line of text next differ is_line is =
      inr (record {
        not_of = other_not_of protocol.version_2 k line of is_line differ;
        there = ap (λ (cs : List HubCell). slice_get cs k) is.end_is ∙ set_other cells of.cell k (record { plan = other.plan; cell = is.next }) differ ∙ found;
      })

  goes_on : (line : List ℕ) (of : OfCell) (text : List ℕ) (next : List HubCell) → AsksOf protocol.version_2 line of → CellsReply protocol cells number of text next → Goes (Some line) next
  goes_on line of text next is_line is = elim (cases_Bool (of.cell == k)) [
    | inl is_it ↦
        let same : of.cell ≡ k = eqb-true of.cell k is_it in
        let answered : CellsReply protocol cells number (record { cell = k; request = of.request }) text next =
        subst (λ (n : ℕ). CellsReply protocol cells number (record { cell = n; request = of.request }) text next) same is in
        let by : IsReplyIn protocol (Some c) cells number (record { cell = k; request = of.request }) text next =
        subst (λ (o : Option HubCell). IsReplyIn protocol o cells number (record { cell = k; request = of.request }) text next) found answered in
        inl (asked_by line of.request text by.events by.next next (subst (λ (n : ℕ). AsksCell protocol.version_2 line n of.request) same is_line) by.answer by.end_is)
    | inr other ↦ passed_by (slice_get cells of.cell) line of text next (eqb-false of.cell k other) is_line is
  ]

  goes : (line : Option (List ℕ)) (text : List ℕ) (next : List HubCell) → ProtocolCellsAnswer protocol cells number line text next → Goes line next
  goes None text next is = same_cells None next (long_not_of protocol.version_2 k) is.end_is
  goes (Some []) text next is = same_cells (Some []) next (empty_not_of protocol.version_2 k) is.end_is
  goes (Some (b ∷ line)) text next (inl is) = same_cells (Some (b ∷ line)) next (none_not_of protocol.version_2 k (b ∷ line) is.0) is.1.end_is
  goes (Some (b ∷ line)) text next (inr is) = goes_on (b ∷ line) is.what text next is.asked is.answer

-- ---- all lines

record SeesAll (protocol : Protocol) (k : ℕ) (c : HubCell) (number : ℕ) (lines : List (Option (List ℕ))) (end : List HubCell) : Type 0 where
  events : List Entry
  last : Cell
  sees : SeesLines c.plan.planned protocol k number c.cell lines events last
  there : slice_get end k ≡ Some (record { plan = c.plan; cell = last })

sees_all : (protocol : Protocol) (k : ℕ) (lines : List (Option (List ℕ))) (cells end : List HubCell) (number : ℕ) (text : List ℕ) (c : HubCell) → slice_get cells k ≡ Some c
    → AnswerAll (ProtocolCellsAnswer protocol) cells number lines text end → SeesAll protocol k c number lines end
sees_all protocol k [] cells end number text c found all =
    record { events = []; last = c.cell; sees = none_left number c.cell; there = ap (λ (cs : List HubCell). slice_get cs k) all.1 ∙ found }
sees_all protocol k (line ∷ lines) cells end number text c found all =
    elim (goes protocol cells number k c found line all.0 all.2 all.3) [
      | inl call ↦
          let next : HubCell = record { plan = c.plan; cell = call.cell } in
          let rest = sees_all protocol k lines all.2 end (number + 1) all.1 next call.there all.4 in
          record {
            events = call.events ++ rest.events;
            last = rest.last;
            sees = subst (λ (l : Option (List ℕ)). SeesLines c.plan.planned protocol k number c.cell (l ∷ lines) (call.events ++ rest.events) rest.last) call.is_it
                (asked number call.words lines c.cell call.cell rest.last call.request call.text call.events rest.events call.asks call.answer rest.sees);
            there = rest.there;
          }
      | inr passed ↦
          let rest = sees_all protocol k lines all.2 end (number + 1) all.1 c passed.there all.4 in
          record { events = rest.events; last = rest.last; sees = passed_over number line lines c.cell rest.last rest.events passed.not_of rest.sees; there = rest.there }
    ]

-- ---- the controlled run

module _ (p : PlannedShop) (protocol : Protocol) (k : ℕ) where
  sees_leads : (number : ℕ) (c : Cell) (lines : List (Option (List ℕ))) (events : List Entry) (end : Cell) → SeesLines p protocol k number c lines events end → LeadsOn p protocol c events end
  sees_leads _ c _ _ _ (none_left number same) = ([], done c)
  sees_leads _ _ _ _ end (asked number words lines c next last request text events more asks answer rest) = answer_leads p protocol (cell_prefix k) c next end number request text events more answer (sees_leads (number + 1) next lines more end rest)
  sees_leads _ _ _ events end (passed_over number line lines c last more not_of rest) = sees_leads (number + 1) c lines events end rest

-- each cell is as alone
pub protocol_alone : EachProtocolCellIsAlone
protocol_alone plans protocol lines text end k v verified all found =
    let is_verified = verified_at plans k v verified found in
    let c : HubCell = record { plan = v; cell = start v.planned } in
    let seen = sees_all protocol k lines (hub_start plans) end 1 text c (starts_at plans k v found) all in
    let led = sees_leads v.planned protocol k 1 (start v.planned) lines seen.events seen.last seen.sees in (
      record { plan = v; cell = seen.last },
      seen.there,
      record {
        events = seen.events;
        sees = seen.sees;
        plan = refl;
        reports = led.0;
        run = led.1;
        counted = (ends_on_the_stated_number-holds v.planned led.0 (events_of seen.events) seen.last is_verified.schedule.shaped led.1).1;
        promised = stays_as_promised v led.0 (events_of seen.events) seen.last is_verified led.1;
      },
    )

-- ---- a hub answers as its cells do by the protocol of version 1

abbrev plain : Protocol
plain = plain_from 0

answers_plainly : (p : PlannedShop) (prefix : List ℕ) (c : Cell) (number : ℕ) (report : reports.Report) (text : List ℕ) (events : List Entry) (next : Cell)
    → ReportAnswer p prefix c number report text events next → RequestAnswer p plain prefix c number (ClaimRequest (Report report)) text events next
answers_plainly p prefix c number report text events next (inl is) =
    let first = inl (is.reason, is.first, sym (either_way (is_before_leap is.reason) is.reason)) in
    inl (record { refusal = Reason is.reason; first = first; text_is = is.text_is; events_are = is.events_are; next_is = is.next_is })
answers_plainly p prefix c number report text events next (inr is) =
    let lines = (prefix ++ report_line report) in
    let late = cond is.late (prefix ++ late_line (at report)) [] in
    let text_is = is.text_is ∙ ap (λ (rest : List ℕ). lines ++ (late ++ rest)) (sym (append-nil (flat_map (λ o. prefix ++ order_line o) (step_orders p c report is.movers)))) in
    inr (record { accepted = (is.step.can, refl); movers = is.movers; step = is.step; late = is.late; late_is = is.late_is; text_is = text_is; events_are = is.events_are; next_is = is.next_is })

replies_plainly : (o : Option HubCell) (cells : List HubCell) (number : ℕ) (on : OnCell) (text : List ℕ) (end : List HubCell) → IsAnsweredIn o cells number on text end
    → IsReplyIn plain o cells number (record { cell = on.cell; request = ClaimRequest (Report on.report) }) text end
replies_plainly None cells number on text end is = is
replies_plainly (Some c) cells number on text end is =
    record { events = is.events; next = is.next; answer = answers_plainly c.plan.planned (cell_prefix on.cell) c.cell number on.report text is.events is.next is.answer; end_is = is.end_is }

asks_nothing : (line : List ℕ) → ((on : OnCell) → IsOnCell line on → ⊥) → (cell : ℕ) (request : Request) → AsksCell false line cell request → ⊥
asks_nothing line none cell (ClaimRequest (Report report)) is = none (record { cell = cell; report = report }) is
asks_nothing line none cell (ClaimRequest (FinishStep job step moment)) is = is
asks_nothing line none cell (ClaimRequest (CleanAfter machine job moment)) is = is
asks_nothing line none cell (ClaimRequest (CleanAfterStep machine job step moment)) is = is
asks_nothing line none cell Status is = is

hub_plainly : (lines : List (Option (List ℕ))) (text : List ℕ) (start end : List HubCell) → AnswerAll CellsAnswer start 1 lines text end → AnswerAll (ProtocolCellsAnswer plain) start 1 lines text end
hub_plainly = lines_so IsOnCell (AsksOf false) CellsReport (CellsReply plain) (λ line none of. asks_nothing line none of.cell of.request) (λ start number line on text end so is.
    record { what = record { cell = on.cell; request = ClaimRequest (Report on.report) }; asked = so; answer = replies_plainly (slice_get start on.cell) start number on text end is }) 1

-- ---- a controller alone

-- whether all reports are punctual, with one more
still_punctual : (so_far late : Bool) (t began : ℕ) → (now : Bool) × (IsTrue now ↔ (IsTrue so_far × ((late ≡ false) ⊎ (t ≤ began))))
still_punctual false late t began = (false, ((λ wrong. let no : false ≡ true = wrong in absurd (cc)), λ both. both.0))
still_punctual true false t began = (true, ((λ so. (refl, inl refl)), λ both. refl))
still_punctual true true t began = elim (cases_lt began t) [
  | inl later ↦ (
    false,
    (
      (λ wrong. let no : false ≡ true = wrong in absurd (cc)),
      λ both. elim both.1 [
        | inl punctual ↦ (let no : true ≡ false = punctual in absurd (cc))
        | inr soon ↦ absurd (omega (arith, soon, later))
      ],
    ),
  )
  | inr soon ↦ (true, ((λ so. (refl, inr soon)), λ both. refl))
]

module _ (v : VerifiedPlan) (k : ℕ) where
  abbrev p : PlannedShop
  p = v.planned

  -- one of the plan, in this cell, which knows how many reports are still to come
  abbrev now : Cell → List MoveOrder → Bool → Control
  now c orders punctual = record { planned = p; times = v.times; cell = c; orders = orders; left = reports_left p c; began = 0; punctual = punctual }

  record IsCall (c : Cell) (orders : List MoveOrder) (punctual : Bool) (report : reports.Report) (next : Cell) : Type 0 where
    events : List Event
    orders_now : List MoveOrder
    still : Bool
    called : IsCalled (now c orders punctual) report events (now next orders_now still)

  called_by : (prefix : List ℕ) (c : Cell) (number : ℕ) (orders : List MoveOrder) (punctual : Bool) (report : reports.Report) (text : List ℕ) (events : List Entry) (next : Cell) → IsOnCourse p c
      → ReportAnswer p prefix c number report text events next → IsCall c orders punctual report next
  called_by prefix c number orders punctual report text events next on (inl is) =
      let refused = promise.refused (now c orders punctual) report (reason-cannot p c report is.reason on.sound is.first) in
      record { events = []; orders_now = orders; still = punctual; called = subst (λ (d : Cell). IsCalled (now c orders punctual) report [] (now d orders punctual)) (sym is.next_is) refused }
  called_by prefix c number orders punctual report text events next on (inr is) =
      let (still, judged) = still_punctual punctual is.late (at report) 0 in
      let os = step_orders p c report is.movers in
      let fewer = ap (λ (d : Cell). reports_left p d + 1) is.next_is ∙ after_step-reports_left p c report is.movers on.shaped on.sound is.step in
      let step : IsAnswered (now c orders punctual) report (record { late = is.late }) (now next os still) = record { movers = is.movers; step = is.step; planned = refl; times = refl; began = refl; cell = is.next_is; orders = refl; left = fewer; late = is.late_is; punctual = judged } in
      record { events = Reported report ∷ moved os; orders_now = os; still = still; called = promise.answered (now c orders punctual) report (record { late = is.late }) (now next os still) step }

  record AreCalls (c : Cell) (orders : List MoveOrder) (punctual : Bool) (lines : List (Option (List ℕ))) (end : Cell) : Type 0 where
    reports_had : List reports.Report
    have : HaveReports k lines reports_had
    events : List Event
    orders_last : List MoveOrder
    still : Bool
    called : AreCalled (now c orders punctual) reports_had events (now end orders_last still)

  calls : (number : ℕ) (c : Cell) (lines : List (Option (List ℕ))) (events : List Entry) (end : Cell) (orders : List MoveOrder) (punctual : Bool) → IsOnCourse p c → SeesLines p plain k number c lines events end
      → AreCalls c orders punctual lines end
  calls _ c _ _ _ orders punctual on (none_left number same) = record { reports_had = []; have = no_report_left; events = []; orders_last = orders; still = punctual; called = not_yet (now c orders punctual) }
  calls _ _ _ _ end orders punctual on (asked number words lines c next last (ClaimRequest (Report report)) text events more asks answer rest) =
      let one = called_by (cell_prefix k) c number orders punctual report text events next on (plain_report p 0 (cell_prefix k) c number report text events next answer) in
      let others = calls (number + 1) next lines more end one.orders_now one.still (request_keeps p plain (cell_prefix k) c number on (ClaimRequest (Report report)) text events next answer) rest in
      record {
        reports_had = report ∷ others.reports_had;
        have = on_it words report lines others.reports_had asks others.have;
        events = one.events ++ others.events;
        orders_last = others.orders_last;
        still = others.still;
        called = once_more (now c orders punctual) (now next one.orders_now one.still) (now end others.orders_last others.still) report others.reports_had one.events others.events one.called others.called;
      }
  calls _ _ _ _ end orders punctual on (asked number words lines c next last (ClaimRequest (FinishStep job step at)) text events more asks answer rest) = absurd asks
  calls _ _ _ _ end orders punctual on (asked number words lines c next last (ClaimRequest (CleanAfter machine job at)) text events more asks answer rest) = absurd asks
  calls _ _ _ _ end orders punctual on (asked number words lines c next last (ClaimRequest (CleanAfterStep machine job step at)) text events more asks answer rest) = absurd asks
  calls _ _ _ _ end orders punctual on (asked number words lines c next last Status text events more asks answer rest) = absurd asks
  calls _ _ _ events end orders punctual on (passed_over number line lines c last more not_of rest) =
      let others = calls (number + 1) c lines events end orders punctual on rest in
      let have = not_on_it line lines others.reports_had (λ words report same is. not_of words (ClaimRequest (Report report)) same is) others.have in
      record { reports_had = others.reports_had; have = have; events = others.events; orders_last = others.orders_last; still = others.still; called = others.called }

pub as_alone : EachCellIsAsAlone
as_alone plans lines text end verified all k v found =
    let is_verified = verified_at plans k v verified found in
    let c : HubCell = cell_start v in
    let seen = sees_all plain k lines (hub_start plans) end 1 text c (starts_at plans k v found) (hub_plainly lines text (hub_start plans) end all) in
    let made = calls v k 1 (start v.planned) lines seen.events seen.last [] true (start_on_course v.planned is_verified.schedule.shaped) seen.sees in
    let last : Control = now v k seen.last made.orders_last made.still in
    let called : AreCalled (control_at_start v) made.reports_had made.events last =
    subst (λ (n : ℕ). AreCalled (record { planned = v.planned; times = v.times; cell = start v.planned; orders = []; left = n; began = 0; punctual = true }) made.reports_had made.events last) (start-reports_left v.planned) made.called in
    let after : IsControllerAfter v made.reports_had made.events last = calls_make_the_controlled_run v made.reports_had made.events last called in (
      record { plan = v; cell = seen.last },
      seen.there,
      record {
        reports = made.reports_had;
        have = made.have;
        events = made.events;
        alone = last;
        after = after;
        same = refl;
        counted = (ends_on_the_stated_number-holds v.planned made.reports_had made.events seen.last is_verified.schedule.shaped after.controlled).1;
        promised = stays_as_promised v made.reports_had made.events seen.last is_verified after.controlled;
      },
    )
