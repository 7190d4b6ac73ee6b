-- The events of a log that was recovered, as they were answered by a protocol.
use Rattle.std.proofs.Common.{◌≡◌, ◌⊎◌, ℕ, ◌+◌, Bool, true, false, List, [], ◌∷◌, ◌++◌, Option, Some, map, length, take, drop, inl, inr, refl, sym, ap, ◌∙◌, subst, append_assoc, append-nil}
use Rattle.std.proofs.lemmas.List.{append_cancel_left, take-append-drop}
use Rattle.std.specs.Prelude.{◌↔◌}
use Rattle.shop_base.specs.{declared.move_order.MoveOrder.MoveOrder, Plan.PlannedShop, Cell.{Cell, start}}
use Rattle.shop_base.specs.{Report.{at, CanReport, after_report}, Punctual.IsPunctual}
use Rattle.shop_base.specs.Run.{Event, Moved, after, after_all}
use Rattle.shop_base.specs.Controlled.{moved, IsStep, after_step, step_orders, Leads, done, accepted, refused}
use Rattle.shop_base.proofs.{ControlledRuns.after_all-moves, CellFacts.after_report-last}
use Rattle.cell_tables.specs.declared.entry.Entry.{Entry, TheVariants.{Report as ReportEntry, Order as OrderEntry}}
use Rattle.cell_tables.specs.{declared.claim.Claim.{Claim, TheVariants.{Report, FinishStep, CleanAfter, CleanAfterStep}}, Claims.claimed}
use Rattle.cell_tables.specs.Events.{event_of, events_of}
use Rattle.byte_streams.specs.Answering.{AnswerAll}
use Rattle.event_lines.specs.declared.requests.Request.TheVariants.{Claim as ClaimRequest}
use Rattle.event_lines.specs.EventLines.{report_line, order_line, entry_lines, order_lines}
use Rattle.event_lines.proofs.Readings.{some_line}
use Rattle.cell_drive.specs.{declared.protocol.Protocol.Protocol, AnswerText.DrivenCell, CutLogs.{IsOwnRun, IsCutLogOf}}
use Rattle.cell_drive.specs.{LateEvents.AreLate, OneRun.cell_after, Refusals.IsAdmissible, Resuming.driven_so_far}
use Rattle.cell_drive.specs.Replay.{replay_line, replay_lines}
use Rattle.cell_drive.specs.ProtocolText.{AsksFor, CellRequests, ProtocolAnswers, AreProtocolAnswers, printed_overdue, lateness_part, prints_end, end_part, acceptance_lines}
use Rattle.cell_drive.proofs.{CutRuns.{FirstStep, first_step}, LineAnswers.asked_line, Parts.entries_moved}
use Rattle.drive_laws.{specs.AnswerLaw.AreClaimLines, proofs.SettledCuts.moves_last}
use Rattle.shop_base.specs.declared.report.Report as reports

-- orders are never late
abbrev on_time : List MoveOrder → List Bool
on_time [] = []
on_time (o ∷ due) = false ∷ on_time due

-- the lines of a report, what it was late for, its orders and the end of the run, and what stands behind them
replayed_step : (line late orders ended rest behind more : List ℕ) → rest ++ behind ≡ ended ++ more
    → ((line ++ late) ++ (orders ++ rest)) ++ behind ≡ (line ++ (late ++ (orders ++ ended))) ++ more
replayed_step line late orders ended rest behind more same =
    append_assoc (line ++ late) (orders ++ rest) behind
    ∙ ap (λ (t : List ℕ). (line ++ late) ++ t) (append_assoc orders rest behind ∙ ap (λ (t : List ℕ). orders ++ t) same ∙ sym (append_assoc orders ended more))
    ∙ append_assoc line late ((orders ++ ended) ++ more)
    ∙ ap (λ (t : List ℕ). line ++ t) (sym (append_assoc late (orders ++ ended) more))
    ∙ sym (append_assoc line (late ++ (orders ++ ended)) more)

module _ (p : PlannedShop) (protocol : Protocol) where
  -- ---- orders that are due, behind events

  due_on_time : (c : Cell) (due : List MoveOrder) → AreLate p c (map OrderEntry due) (on_time due)
  due_on_time c [] = refl
  due_on_time c (o ∷ due) = (refl, due_on_time (after p c (Moved o)) due)

  late_due : (c : Cell) (es : List Entry) (late : List Bool) (due : List MoveOrder) → AreLate p c es late → AreLate p c (es ++ map OrderEntry due) (late ++ on_time due)
  late_due c [] late due none = subst (λ (l : List Bool). AreLate p c (map OrderEntry due) (l ++ on_time due)) (sym none) (due_on_time c due)
  late_due c (e ∷ es) [] due are = absurd are
  late_due c (e ∷ es) (f ∷ late) due are = (are.0, late_due (after p c (event_of e)) es late due are.1)

  replayed_orders : (c : Cell) (due : List MoveOrder) → replay_lines p protocol c (map OrderEntry due) (on_time due) ≡ entry_lines (map OrderEntry due)
  replayed_orders c [] = refl
  replayed_orders c (o ∷ due) = ap (λ (t : List ℕ). order_line o ++ t) (replayed_orders (after p c (Moved o)) due)

  replayed_due : (c : Cell) (es : List Entry) (late : List Bool) (due : List MoveOrder) → AreLate p c es late
      → replay_lines p protocol c (es ++ map OrderEntry due) (late ++ on_time due) ≡ replay_lines p protocol c es late ++ entry_lines (map OrderEntry due)
  replayed_due c [] late due none = ap (λ (l : List Bool). replay_lines p protocol c (map OrderEntry due) (l ++ on_time due)) none ∙ replayed_orders c due
  replayed_due c (e ∷ es) [] due are = absurd are
  replayed_due c (e ∷ es) (f ∷ late) due are =
      let next = after p c (event_of e) in
      ap (λ (t : List ℕ). replay_line p protocol c e f ++ t) (replayed_due next es late due are.1)
      ∙ sym (append_assoc (replay_line p protocol c e f) (replay_lines p protocol next es late) (entry_lines (map OrderEntry due)))

  -- ---- a step

  -- behind the orders of a step, and their lines
  record AreLateBehind (c : Cell) (os : List MoveOrder) (later : List Entry) (late : List Bool) : Type 0 where
    rest : List Bool
    are : AreLate p (after_all p c (moved os)) later rest
    text : replay_lines p protocol c (map OrderEntry os ++ later) late ≡ order_lines os ++ replay_lines p protocol (after_all p c (moved os)) later rest

  late_behind : (c : Cell) (os : List MoveOrder) (later : List Entry) (late : List Bool) → AreLate p c (map OrderEntry os ++ later) late → AreLateBehind c os later late
  late_behind c [] later late are = record { rest = late; are = are; text = refl }
  late_behind c (o ∷ os) later [] are = absurd are
  late_behind c (o ∷ os) later (f ∷ late) are =
      let next = after p c (Moved o) in
      let others = late_behind next os later late are.1 in
      record {
        rest = others.rest;
        are = others.are;
        text = ap (λ (t : List ℕ). order_line o ++ t) others.text ∙ sym (append_assoc (order_line o) (order_lines os) (replay_lines p protocol (after_all p next (moved os)) later others.rest));
      }

  -- the lines that claim the reports among these events claim those behind some orders
  behind_orders : (c : Cell) (os : List MoveOrder) (later : List Entry) (lines : List (Option (List ℕ))) → AreClaimLines p protocol c lines (map OrderEntry os ++ later)
      → AreClaimLines p protocol (after_all p c (moved os)) lines later
  behind_orders c [] later lines are = are
  behind_orders c (o ∷ os) later lines are = behind_orders (after p c (Moved o)) os later lines are

  abbrev driven_to : Cell → List Entry → DrivenCell
  driven_to c entries = record { cell = c; entries = entries }

  -- the events of a report that is accepted
  abbrev step_entries : Cell → reports.Report → List ℕ → List Entry
  step_entries c report js = ReportEntry report ∷ map OrderEntry (step_orders p c report js)

  -- its answer, with whether it was late
  abbrev step_text : Cell → reports.Report → List ℕ → Bool → List ℕ
  step_text c report js late = acceptance_lines [] report late (printed_overdue protocol p c report) (step_orders p c report js) (prints_end protocol p (after_step p c report js))

  some_words : (version_2 : Bool) (line : List ℕ) (claim : Claim) → AsksFor version_2 line (ClaimRequest claim) → line ≡ [] → ⊥
  some_words version_2 line claim asked none = go version_2 claim (subst (λ (l : List ℕ). AsksFor version_2 l (ClaimRequest claim)) none asked)
    where
      go : (t : Bool) (q : Claim) → AsksFor t [] (ClaimRequest q) → ⊥
      go true (Report report) is = some_line [] report is refl
      go true (FinishStep job step at) is = is.1
      go true (CleanAfter machine job at) is = is.1
      go true (CleanAfterStep machine job step at) is = is.1
      go false (Report report) is = some_line [] report is refl
      go false (FinishStep job step at) is = is
      go false (CleanAfter machine job at) is = is
      go false (CleanAfterStep machine job step at) is = is

  -- a line that claims it is answered so
  claim_answered : (c : Cell) (before : List Entry) (number : ℕ) (line : List ℕ) (claim : Claim) (report : reports.Report) (js : List ℕ) (late : Bool) → claimed p claim ≡ report
      → AsksFor protocol.version_2 line (ClaimRequest claim) → IsAdmissible protocol p c claim → IsStep p c report js → ((late ≡ false) ↔ IsPunctual p c report)
      → ProtocolAnswers p protocol (driven_to c before) number (Some line) (step_text c report js late) (driven_to (after_step p c report js) (before ++ step_entries c report js))
  claim_answered c before number line claim report js late same asked is_accepted step late_is =
      subst (λ (q : reports.Report). ProtocolAnswers p protocol (driven_to c before) number (Some line) (step_text c q js late) (driven_to (after_step p c q js) (before ++ step_entries c q js))) same
      (asked_line (AsksFor protocol.version_2) (CellRequests p protocol) (driven_to c before) number line (step_text c own js late) (ClaimRequest claim) (driven_to (after_step p c own js) (before ++ step_entries c own js))
      (some_words protocol.version_2 line claim asked) asked (record {
        more = step_entries c own js;
        answer = inr (record {
          accepted = is_accepted;
          movers = js;
          step = subst (λ (q : reports.Report). IsStep p c q js) (sym same) step;
          late = late;
          late_is = subst (λ (q : reports.Report). (late ≡ false) ↔ IsPunctual p c q) (sym same) late_is;
          text_is = refl;
          events_are = refl;
          next_is = refl;
        });
        entries = refl;
      }))
    where
      own : reports.Report
      own = claimed p claim

  -- ---- the events of a controlled run, one step after another

  -- the end of the run, where it is printed behind some events
  abbrev pub end_behind : List Entry → Cell → List ℕ
  end_behind [] end = []
  end_behind (e ∷ entries) end = end_part [] end.last (prints_end protocol p end)

  nothing_led : (c end : Cell) (rs : List reports.Report) (es : List Event) → Leads p c rs es end → es ≡ [] → end ≡ c
  nothing_led _ _ _ _ (done c) none = refl
  nothing_led _ end _ _ (refused c r rs es last cannot leads) none = nothing_led c end rs es leads none
  nothing_led _ end _ _ (accepted c r js rs es last step leads) none = absurd (cc)

  -- while reports are possible the end isn't printed
  module _ (On : Cell → Type 0) (keeps : (c : Cell) (r : reports.Report) (js : List ℕ) → On c → IsStep p c r js → On (after_step p c r js))
      (goes : (c : Cell) (r : reports.Report) → On c → CanReport p c r → prints_end protocol p c ≡ false) where
    -- so it is printed behind the last step
    end_in_turn : (c end : Cell) (rs : List reports.Report) (later : List Entry) (rest : List Bool) (t : ℕ) → On c → Leads p c rs (events_of later) end → c.last ≡ t
        → replay_lines p protocol c later rest ++ end_part [] end.last (prints_end protocol p end) ≡ end_part [] t (prints_end protocol p c) ++ (replay_lines p protocol c later rest ++ end_behind later end)
    end_in_turn c end rs [] rest t on leads now =
        ap (λ (x : Cell). end_part [] x.last (prints_end protocol p x)) (nothing_led c end rs [] leads refl)
        ∙ ap (λ (n : ℕ). end_part [] n (prints_end protocol p c)) now ∙ sym (append-nil (end_part [] t (prints_end protocol p c)))
    end_in_turn c end rs (e ∷ later) rest t on leads now = go (first_step p c rs (events_of (e ∷ later)) end leads)
      where
        ending : List ℕ
        ending = end_part [] end.last (prints_end protocol p end)

        go : (events_of (e ∷ later) ≡ []) ⊎ FirstStep p c (events_of (e ∷ later)) end → replay_lines p protocol c (e ∷ later) rest ++ ending ≡ end_part [] t (prints_end protocol p c) ++ (replay_lines p protocol c (e ∷ later) rest ++ ending)
        go (inl none) = absurd (cc)
        go (inr first) = ap (λ (b : Bool). end_part [] t b ++ (replay_lines p protocol c (e ∷ later) rest ++ ending)) (sym (goes c first.report on first.step.can))

    answered : (c end : Cell) (rs : List reports.Report) (es : List Event) → Leads p c rs es end → On c
        → (entries : List Entry) (late : List Bool) (lines : List (Option (List ℕ))) (number : ℕ) (before : List Entry)
        → events_of entries ≡ es → AreLate p c entries late → AreClaimLines p protocol c lines entries
        → AnswerAll (ProtocolAnswers p protocol) (driven_to c before) number lines (replay_lines p protocol c entries late ++ end_behind entries end) (driven_to end (before ++ entries))
    answered _ _ _ _ (done c) on [] late lines number before same are say =
        subst (λ (ls : List (Option (List ℕ))). AnswerAll (ProtocolAnswers p protocol) (driven_to c before) number ls [] (driven_to c (before ++ []))) (sym say) (refl, ap (driven_to c) (append-nil before))
    answered _ _ _ _ (done c) on (ReportEntry report ∷ entries) late lines number before same are say = absurd (cc)
    answered _ _ _ _ (done c) on (OrderEntry order ∷ entries) late lines number before same are say = absurd (cc)
    answered _ _ _ _ (refused c r rs es end cannot leads) on entries late lines number before same are say = answered c end rs es leads on entries late lines number before same are say
    answered _ _ _ _ (accepted c r js rs es end step leads) on [] late lines number before same are say = absurd (cc)
    answered _ _ _ _ (accepted c r js rs es end step leads) on (OrderEntry order ∷ entries) late lines number before same are say = absurd (cc)
    answered _ _ _ _ (accepted c r js rs es end step leads) on (ReportEntry report ∷ entries) [] lines number before same are say = absurd are
    answered _ _ _ _ (accepted c r js rs es end step leads) on (ReportEntry report ∷ entries) (f ∷ fs) lines number before same are (line, claim, rest, asked, is_claimed, is_accepted, says, whole) =
        let os : List MoveOrder = step_orders p c r js in
        let same_report : report ≡ r = cc in
        let tails : events_of entries ≡ moved os ++ es = cc in
        let (later, split, events) = entries_moved entries os es tails in
        let next : Cell = after_step p c r js in
        let led : after_all p (after_report c report) (moved os) ≡ next = ap (λ (q : reports.Report). after_all p (after_report c q) (moved os)) same_report ∙ after_all-moves p (after_report c r) (at r) js in
        let behind : AreLateBehind (after_report c report) os later fs =
        late_behind (after_report c report) os later fs (subst (λ (xs : List Entry). AreLate p (after_report c report) xs fs) split are.1) in
        let are_later : AreLate p next later behind.rest = subst (λ (d : Cell). AreLate p d later behind.rest) led behind.are in
        let says_later : AreClaimLines p protocol next rest later =
        subst (λ (d : Cell). AreClaimLines p protocol d rest later) led
        (behind_orders (after_report c report) os later rest (subst (AreClaimLines p protocol (after_report c report) rest) split says)) in
        let now : next.last ≡ at report = moves_last p (after_report c r) (at r) js (after_report-last c r) ∙ ap at (sym same_report) in
        let entries_then : List Entry = before ++ ReportEntry report ∷ map OrderEntry os in
        let lateness : List ℕ = lateness_part [] (at report) f (printed_overdue protocol p c report) in
        let ended : List ℕ = end_part [] (at report) (prints_end protocol p next) in
        let text : List ℕ = report_line report ++ (lateness ++ (order_lines os ++ ended)) in
        let answer : ProtocolAnswers p protocol (driven_to c before) number (Some line) text (driven_to next entries_then) =
        subst (λ (q : reports.Report). ProtocolAnswers p protocol (driven_to c before) number (Some line)
        (report_line report ++ (lateness ++ (order_lines (step_orders p c q js) ++ end_part [] (at report) (prints_end protocol p (after_step p c q js)))))
        (driven_to (after_step p c q js) (before ++ ReportEntry report ∷ map OrderEntry (step_orders p c q js)))) same_report
        (claim_answered c before number line claim report js f is_claimed asked is_accepted (subst (λ (q : reports.Report). IsStep p c q js) (sym same_report) step) are.0) in
        let text_then : List ℕ = replay_lines p protocol next later behind.rest ++ end_behind later end in
        let others = answered next end rs es leads (keeps c r js on step) later behind.rest rest (number + 1) entries_then events are_later says_later in
        let joined : entries_then ++ later ≡ before ++ ReportEntry report ∷ entries =
        append_assoc before (ReportEntry report ∷ map OrderEntry os) later ∙ ap (λ (xs : List Entry). before ++ ReportEntry report ∷ xs) (sym split) in
        let replay_is : replay_lines p protocol c (ReportEntry report ∷ entries) (f ∷ fs) ≡ (report_line report ++ lateness) ++ (order_lines os ++ replay_lines p protocol next later behind.rest) =
        ap (λ (xs : List Entry). (report_line report ++ lateness) ++ replay_lines p protocol (after_report c report) xs fs) split
        ∙ ap (λ (t : List ℕ). (report_line report ++ lateness) ++ t) (behind.text ∙ ap (λ (d : Cell). order_lines os ++ replay_lines p protocol d later behind.rest) led) in
        let ending : List ℕ = end_part [] end.last (prints_end protocol p end) in
        let whole_text : replay_lines p protocol c (ReportEntry report ∷ entries) (f ∷ fs) ++ ending ≡ text ++ text_then =
        ap (λ (t : List ℕ). t ++ ending) replay_is
        ∙ replayed_step (report_line report) lateness (order_lines os) ended (replay_lines p protocol next later behind.rest) ending text_then
        (end_in_turn next end rs later behind.rest (at report) (keeps c r js on step) (subst (λ (xs : List Event). Leads p next rs xs end) (sym events) leads) now) in
        subst (λ (ls : List (Option (List ℕ))). AnswerAll (ProtocolAnswers p protocol) (driven_to c before) number ls (replay_lines p protocol c (ReportEntry report ∷ entries) (f ∷ fs) ++ ending) (driven_to end (before ++ ReportEntry report ∷ entries))) (sym whole) (
          text,
          text_then,
          driven_to next entries_then,
          answer,
          subst (λ (xs : List Entry). AnswerAll (ProtocolAnswers p protocol) (driven_to next entries_then) (number + 1) rest text_then (driven_to end xs)) joined others,
          whole_text,
        )

    pub answered_again : (log : List (List ℕ)) (entries : List Entry) (late : List Bool) (lines : List (Option (List ℕ))) → On (start p)
        → IsCutLogOf p log entries (length late) → AreLate p (start p) (take (length late) entries) late → AreClaimLines p protocol (start p) lines entries
        → AreProtocolAnswers p protocol lines (replay_lines p protocol (start p) (take (length late) entries) late ++ (entry_lines (drop (length late) entries) ++ end_behind entries (cell_after p entries))) (driven_so_far p entries)
    answered_again log entries late lines on cut are says =
        let n : ℕ = length late in
        let run : IsOwnRun p entries = subst (λ (es : List Entry). IsOwnRun p es) (sym cut.whole) cut.log.run in
        let are_all : AreLate p (start p) entries (late ++ on_time cut.due) =
        subst (λ (es : List Entry). AreLate p (start p) es (late ++ on_time cut.due)) (sym cut.whole) (late_due (start p) (take n entries) late cut.due are) in
        let due : drop n entries ≡ map OrderEntry cut.due = append_cancel_left (take n entries) (drop n entries) (map OrderEntry cut.due) (take-append-drop n entries ∙ cut.whole) in
        let ending : List ℕ = end_behind entries (cell_after p entries) in
        let text : replay_lines p protocol (start p) entries (late ++ on_time cut.due) ++ ending ≡ replay_lines p protocol (start p) (take n entries) late ++ (entry_lines (drop n entries) ++ ending) =
        ap (λ (es : List Entry). replay_lines p protocol (start p) es (late ++ on_time cut.due) ++ ending) cut.whole
        ∙ ap (λ (t : List ℕ). t ++ ending) (replayed_due (start p) (take n entries) late cut.due are ∙ ap (λ (es : List Entry). replay_lines p protocol (start p) (take n entries) late ++ entry_lines es) (sym due))
        ∙ append_assoc (replay_lines p protocol (start p) (take n entries) late) (entry_lines (drop n entries)) ending in
        subst (λ (t : List ℕ). AreProtocolAnswers p protocol lines t (driven_so_far p entries)) text
        (answered (start p) (cell_after p entries) _ (events_of entries) run on entries (late ++ on_time cut.due) lines 1 [] refl are_all says)
