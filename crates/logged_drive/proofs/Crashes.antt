-- What a crash leaves of a log is recovered.
use Rattle.std.proofs.Common.{◌≡◌, ℕ, List, [], ◌∷◌, ◌++◌, length, map, drop, Option, refl, sym, ap, ◌∙◌, subst, arith, append_assoc, append-nil, take-append-drop}
use Rattle.std.proofs.lemmas.List.{append_cancel_left}
use Rattle.shop_base.specs.{declared.move_order.MoveOrder.MoveOrder, Plan.{PlannedShop, IsWellShaped}, Cell.start}
use Rattle.shop_base.specs.{Run.{IsRun, IsAtRest}, Sound.IsSound}
use Rattle.shop_base.proofs.{Cycles.ranks_exclude_cycle, Keeping.run-sound, ControlledRuns.events_join}
use Rattle.text_lines.{specs.Lines.{lines_of, ended_lines}, proofs.EndedLines.ended-more}
use Rattle.plan_verifier.specs.Accepted.{HasNoCycle, IsAcceptable}
use Rattle.cell_tables.specs.{declared.entry.Entry.{Entry, TheVariants.Order as OrderEntry}, Events.events_of}
use Rattle.run_log.proofs.Audits.{events-join}
use Rattle.event_lines.specs.{EventLines.{entry_line, entry_lines, order_lines}, LogLines.LinesParse}
use Rattle.event_lines.specs.ReadBack.{ParsesFirst}
use Rattle.event_lines.proofs.{Readings.parse-parts, EntryParses.parses_both}
use Rattle.cell_drive.specs.{declared.protocol.Protocol.Protocol, AnswerText.{DrivenCell, undriven}}
use Rattle.cell_drive.specs.{ProtocolText.ProtocolAnswers, Resuming.{due_text, driven_so_far}}
use Rattle.cell_drive.specs.Recovered.{Recovered, IsRecoveredRun, IsRecovered, plan_of, replayed_events, replayed_cell}
use Rattle.cell_drive.proofs.{CutLogs.closing_part, OneText.{IsOnCourse, start_on_course, protocol_lines_keep}}
use Rattle.cell_drive.proofs.{OwnRuns.front_events, ReadBack.{AreParsed, all_parsed, parses_moves}}
use Rattle.cell_drive.proofs.ProtocolParses.{protocol_line_parses}
use Rattle.run_journal.specs.{LogFiles.IsLeft, WholeLines.whole_lines, LoggedLines.logged}
use Rattle.run_journal.proofs.Formed.{IsFormed, formed-both, formed-line, left_torn}
use Rattle.run_journal.proofs.{LeftEvents.left_log, ByLines.ended_whole}
use Rattle.logged_drive.specs.CrashLaw.{IsRecoveredAgain, AreLinesAnswered, IsGiven, ADrivenRunIsRecovered, IsRecoveredOnceMore, ARecoveredRunIsRecovered}
use Rattle.logged_drive.proofs.{FormedAnswers.{all_formed, formed_moves, last_formed}, FormedStates.protocol_formed}

none_in_front : (front back : List Entry) → front ++ back ≡ [] → front ≡ []
none_in_front [] back none = refl
none_in_front (entry ∷ front) back none = absurd (cc none)

-- a text records events behind those of whole lines, with which they are a run; of its first bytes some were shown
module _ (p : PlannedShop) (base : List ℕ) (recorded : List Entry) (text shown pending lost left : List ℕ) (all : List Entry) where
  again : whole_lines base ≡ base → LinesParse p (ended_lines base) recorded → LinesParse p (lines_of text) all → IsRun p (events_of (recorded ++ all)) → IsFormed text → text ≡ (shown ++ pending) ++ lost
      → IsLeft (length (base ++ logged shown)) (base ++ logged (shown ++ pending)) left → HasNoCycle p → (recorded ≡ [] → IsAcceptable p) → IsRecoveredAgain p recorded all shown left
  again whole parses_base parses_text run formed split is acyclic accepted =
      let came = shown ++ pending in
      let (more, lines) = ended-more came lost in
      let (a, b, first, second, parts) = parse-parts p (ended_lines came) more all (subst (λ (ls : List (List ℕ)). LinesParse p ls all) (ap lines_of split ∙ lines) parses_text) in
      let log = left_log p base shown pending left recorded a whole is parses_base first in
      let all_is : all ≡ log.kept ++ (log.lost ++ b) = parts ∙ ap (λ (es : List Entry). es ++ b) log.came_so ∙ append_assoc log.kept log.lost b in
      let both : recorded ++ all ≡ (recorded ++ log.kept) ++ (log.lost ++ b) = ap (λ (es : List Entry). recorded ++ es) all_is ∙ sym (append_assoc recorded log.kept (log.lost ++ b)) in
      let events : events_of (recorded ++ all) ≡ events_of (recorded ++ log.kept) ++ events_of (log.lost ++ b) = ap events_of both ∙ events-join (recorded ++ log.kept) (log.lost ++ b) in
      let parses = subst (λ (ls : List (List ℕ)). LinesParse p ls (recorded ++ log.kept)) (sym (ended_whole left)) log.parses in
      record {
        kept = log.kept;
        lost = log.lost ++ b;
        came_so = all_is;
        parses = parses;
        has_shown = log.has_shown;
        can = record {
          recorded = recorded ++ log.kept;
          parses = parses;
          is_run = front_events p (start p) (events_of (recorded ++ log.kept)) (events_of (log.lost ++ b)) (subst (IsRun p) events run);
          not_past = omega arith;
          acyclic = acyclic;
          accepted = λ none. accepted (none_in_front recorded log.kept none);
        };
        torn = left_torn base shown pending lost text left whole formed split is;
      }

-- ---- what was answered

module _ (p : PlannedShop) (shaped : IsWellShaped p) (protocol : Protocol) where
  answered_parse : (before end : DrivenCell) (lines : List (Option (List ℕ))) (text : List ℕ) → IsOnCourse p before.cell → AreLinesAnswered p protocol before lines text end → AreParsed p shaped before text end
  answered_parse before end lines text on all = all_parsed p shaped (ProtocolAnswers p protocol) (protocol_lines_keep p protocol) (protocol_line_parses p shaped protocol) lines before end 1 text on all

  answered_formed : (before end : DrivenCell) (lines : List (Option (List ℕ))) (text : List ℕ) → IsOnCourse p before.cell → AreLinesAnswered p protocol before lines text end → IsFormed text
  answered_formed before end lines text on all = all_formed p shaped (ProtocolAnswers p protocol) (protocol_lines_keep p protocol) (protocol_formed p shaped protocol) lines before end 1 text on all

whole_text : (p : PlannedShop) (text : List ℕ) (entries : List Entry) → ParsesFirst p text entries → LinesParse p (lines_of text) entries
whole_text p text entries parses =
    subst (λ (t : List ℕ). LinesParse p (lines_of t) entries) (append-nil text) (subst (λ (es : List Entry). LinesParse p (lines_of (text ++ [])) es) (append-nil entries) (parses [] [] refl))

pub driven_run : ADrivenRunIsRecovered
driven_run p protocol base lines answers closing shown pending left end shaped acceptable whole none are given is =
    let on = start_on_course p shaped in
    let parsed = answered_parse p shaped protocol (undriven p) end lines answers on are in
    let text = answers ++ closing in
    let parses : ParsesFirst p text (parsed.more ++ []) = parses_both p answers closing parsed.more [] parsed.parses (closing_part p end closing given.closes) in
    let entries : parsed.more ++ [] ≡ end.entries = append-nil parsed.more ∙ sym parsed.entries in
    again p base [] text shown pending given.lost left end.entries whole none
    (subst (λ (es : List Entry). LinesParse p (lines_of text) es) entries (whole_text p text (parsed.more ++ []) parses))
    (subst (λ (es : List Entry). IsRun p (events_of es)) (sym parsed.entries) parsed.events)
    (formed-both answers closing (answered_formed p shaped protocol (undriven p) end lines answers on are) (last_formed p shaped end closing given.closes))
    given.given is acceptable.acyclic (λ none. acceptable)

-- ---- a run that was recovered

empty_line : (p : PlannedShop) → ParsesFirst p (10 ∷ []) []
empty_line p rest later parses = ([], later, refl, parses, refl)

lines_of_orders : (orders : List MoveOrder) → entry_lines (map OrderEntry orders) ≡ order_lines orders
lines_of_orders [] = refl
lines_of_orders (o ∷ orders) = ap (λ (l : List ℕ). entry_line (OrderEntry o) ++ l) (lines_of_orders orders)

module _ (recovered : Recovered) (run : IsRecoveredRun recovered) where
  abbrev p : PlannedShop
  p = plan_of recovered

  abbrev orders : List MoveOrder
  orders = recovered.control.orders

  abbrev noted : List Entry
  noted = recovered.log.entries

  due_is : due_text recovered ≡ (10 ∷ []) ++ order_lines orders
  due_is =
      let parts : replayed_events recovered ++ drop (length recovered.late) noted ≡ replayed_events recovered ++ map OrderEntry orders = take-append-drop (length recovered.late) noted ∙ run.due in
      ap (λ (es : List Entry). 10 ∷ entry_lines es) (append_cancel_left (replayed_events recovered) (drop (length recovered.late) noted) (map OrderEntry orders) parts) ∙ ap (λ (l : List ℕ). 10 ∷ l) (lines_of_orders orders)

  replayed_sound : IsRun p (events_of (replayed_events recovered)) → IsSound p (replayed_cell recovered)
  replayed_sound is_run = run-sound p (events_of (replayed_events recovered)) run.kept.shaped is_run

  orders_parse : IsRun p (events_of (replayed_events recovered)) → ParsesFirst p (due_text recovered) (map OrderEntry orders)
  orders_parse is_run =
      let settled = run.begun.settled in
      let t = recovered.control.began in
      let parses = parses_moves p run.kept.shaped (replayed_cell recovered) t settled.movers (replayed_sound is_run) settled.settles.moves in
      let lines = subst (λ (os : List MoveOrder). ParsesFirst p (order_lines os) (map OrderEntry os)) (sym settled.orders_are) parses in
      subst (λ (l : List ℕ). ParsesFirst p l (map OrderEntry orders)) (sym due_is) (parses_both p (10 ∷ []) (order_lines orders) [] (map OrderEntry orders) (empty_line p) lines)

  orders_formed : IsRun p (events_of (replayed_events recovered)) → IsFormed (due_text recovered)
  orders_formed is_run =
      let settled = run.begun.settled in
      let t = recovered.control.began in
      let lines = subst (λ (os : List MoveOrder). IsFormed (order_lines os)) (sym settled.orders_are) (formed_moves p run.kept.shaped (replayed_cell recovered) t settled.movers (replayed_sound is_run) settled.settles.moves) in
      subst IsFormed (sym due_is) (formed-both (10 ∷ []) (order_lines orders) (formed-line [] tt (λ is. refl)) lines)

  on_course : IsOnCourse p (driven_so_far p noted).cell
  on_course = record {
    shaped = run.kept.shaped;
    sound = run-sound p (events_of noted) run.kept.shaped run.kept.replayed.run;
    rest = subst (IsAtRest p) run.kept.replayed.cell run.kept.control.at_rest;
  }

  recovers_again : (protocol : Protocol) (base : List ℕ) (at : Option ℕ) (lines : List (Option (List ℕ))) (answers closing shown pending left : List ℕ) (end : DrivenCell)
      → whole_lines base ≡ base → IsRecovered p (ended_lines base) at recovered → AreLinesAnswered p protocol (driven_so_far p noted) lines answers end → IsGiven p (due_text recovered ++ answers) shown pending closing end
      → IsLeft (length (base ++ logged shown)) (base ++ logged (shown ++ pending)) left → IsRecoveredOnceMore p recovered shown left end
  recovers_again protocol base at lines answers closing shown pending left end whole up are given is =
      let from = up.recovered_from in
      let shaped = run.kept.shaped in
      let is_run = subst (λ (es : List Entry). IsRun p (events_of es)) (sym from.replayed_is) up.is_run in
      let on = answered_parse p shaped protocol (driven_so_far p noted) end lines answers on_course are in
      let came = map OrderEntry orders ++ on.more in
      let all : end.entries ≡ replayed_events recovered ++ came = on.entries ∙ ap (λ (es : List Entry). es ++ on.more) run.due ∙ append_assoc (replayed_events recovered) (map OrderEntry orders) on.more in
      let joined : events_of end.entries ≡ events_of noted ++ events_of on.more = ap events_of on.entries ∙ events-join noted on.more in
      let run_all : IsRun p (events_of end.entries) = subst (IsRun p) (sym joined) (events_join p (start p) (events_of noted) (events_of on.more) run.kept.replayed.run on.events) in
      let text = (due_text recovered ++ answers) ++ closing in
      let parses : ParsesFirst p text (came ++ []) =
      parses_both p (due_text recovered ++ answers) closing came [] (parses_both p (due_text recovered) answers (map OrderEntry orders) on.more (orders_parse is_run) on.parses) (closing_part p end closing given.closes) in
      let ranks = run.kept.control.ranks in
      record {
        came = came;
        whole = all;
        again = again p base (replayed_events recovered) text shown pending given.lost left came whole
            (subst (λ (es : List Entry). LinesParse p (ended_lines base) es) (sym from.replayed_is) up.parses)
            (subst (λ (es : List Entry). LinesParse p (lines_of text) es) (append-nil came) (whole_text p text (came ++ []) parses))
            (subst (λ (es : List Entry). IsRun p (events_of es)) all run_all)
            (formed-both (due_text recovered ++ answers) closing (formed-both (due_text recovered) answers (orders_formed is_run) (answered_formed p shaped protocol (driven_so_far p noted) end lines answers on_course are))
            (last_formed p shaped end closing given.closes))
            given.given is (λ nodes cycle. ranks_exclude_cycle p _ nodes ranks.rise cycle) (λ none. from.accepted (sym from.replayed_is ∙ none));
      }

-- what is so of the plan of a run, is so of the plan that it is
abbrev TakesAgain : Recovered → Protocol → List ℕ → Option ℕ → List (Option (List ℕ)) → List ℕ → List ℕ → List ℕ → List ℕ → List ℕ → DrivenCell → PlannedShop → Type 0
TakesAgain recovered protocol base at lines answers closing shown pending left end p =
    IsRecovered p (ended_lines base) at recovered → AreLinesAnswered p protocol (driven_so_far p recovered.log.entries) lines answers end → IsGiven p (due_text recovered ++ answers) shown pending closing end
    → IsRecoveredOnceMore p recovered shown left end

pub recovered_again_run : ARecoveredRunIsRecovered
recovered_again_run p protocol base at recovered lines answers closing shown pending left end whole up are given is =
    subst (TakesAgain recovered protocol base at lines answers closing shown pending left end) up.recovered_from.planned
    (λ up_so are_so given_so. recovers_again recovered up.recovered_from.run protocol base at lines answers closing shown pending left end whole up_so are_so given_so is) up are given
