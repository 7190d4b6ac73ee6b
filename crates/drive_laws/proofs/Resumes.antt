-- What a run that was recovered goes on to write is a log.
use Rattle.std.proofs.Common.{◌≡◌, ℕ, ◌≤◌, List, [], ◌∷◌, ◌++◌, take, drop, map, Option, Bool, length, length-take-le, None, ◌⊎◌, inl, inr, refl, sym, ap, ◌∙◌, subst, arith, append_assoc, append-nil}
use Rattle.std.proofs.{KnownBytes.Appends-trans, lemmas.List.take-append-drop}
use Rattle.shop_base.specs.{declared.move_order.MoveOrder.MoveOrder, Plan.{PlannedShop, IsWellShaped}, Sound.IsSound}
use Rattle.shop_base.specs.{Cell.{Cell, start}, Run.{Reported, Moved, AreEvents, after, after_all, IsRun, IsAtRest}}
use Rattle.shop_base.specs.{Controlled.{Leads, after_moves, orders_for, moved}, Ahead.{GoesOnTo, settled}, Report.at}
use Rattle.shop_base.proofs.{Cycles.ranks_exclude_cycle, ControlledRuns.{events_join, after_all_join, start_at_rest}}
use Rattle.shop_base.proofs.Keeping.{start-sound, run-sound, after_report-sound, after_move-sound}
use Rattle.text_lines.specs.Lines.{lines_of, ended_lines}
use Rattle.alt_graph.specs.Times.{AreRanks, rank_of}
use Rattle.plan_verifier.specs.Accepted.{IsAcceptable, VerifiedPlan}
use Rattle.cell_tables.specs.declared.entry.Entry.{Entry, TheVariants.{Report as ReportEntry, Order as OrderEntry}}
use Rattle.cell_tables.specs.Events.{events_of}
use Rattle.event_lines.specs.{EventLines.{entry_line, entry_lines}, LogLines.{IsEntryOf, LinesParse}}
use Rattle.event_lines.specs.ReadBack.{ParsesFirst}
use Rattle.event_lines.proofs.EntryParses.{parses_none, parses_both, parses_entry}
use Rattle.run_log.{specs.Log.Noted, proofs.Audits.events-join}
use Rattle.byte_streams.specs.{Lines.input_lines, Answering.AnswerAll}
use Rattle.cell_drive.specs.{declared.{protocol.Protocol.Protocol, resume.RestEnd.RestEnd}, OneRun.cell_after}
use Rattle.cell_drive.specs.{AnswerText.{DrivenCell, undriven, CellCloses}, AuditLaw.IsLogOf}
use Rattle.cell_drive.specs.Recovered.{replayed_cell, Recovered, IsRecoverable, IsRecoveredRun, IsRecovered, plan_of, replayed_events}
use Rattle.cell_drive.specs.ProtocolText.{AreProtocolAnswers, ProtocolAnswers, lateness_part, printed_overdue}
use Rattle.cell_drive.specs.{Session.{SessionState, IsRestEndOf, seen}, Replay.{replay_line, replay_lines}}
use Rattle.cell_drive.specs.Resuming.{again_text, again_of, driven_so_far, session_from, ContinuesFrom, IsRunToRest, AResumedTextIsALog, OneResumedText, WhatWasResumedIsSuchAText, AnAuditKeepsWhatWasResumed, WhatWasResumedGoesOn}
use Rattle.cell_drive.specs.CutLaw.{IsRunPrefix, WhatWasDrivenIsRecovered, WhatWasDrivenHasItsOrders, WhatWasResumedIsRecovered, WhatWasResumedIsRecoverable}
use Rattle.cell_drive.proofs.{Parts.events-orders, ShopEntries.{report_of_shop, order_of_shop}, ReadBack.AreParsed}
use Rattle.cell_drive.proofs.{OneText.{IsOnCourse, one_closed, one_lines_text}, ProtocolParses.lateness_parses}
use Rattle.cell_drive.proofs.CutLogs.{AreLed, a_cut_log_is_recovered, closing_part, cut_of_led, protocol_answers_lead}
use Rattle.cell_drive.proofs.Sessions.{a_session_answers_so, seen_closes}
use Rattle.drive_laws.proofs.{AuditKeeps.found_of, AcceptedOnce.answers_parsed}

-- ---- the lines of a run

pub empty_line : (p : PlannedShop) → ParsesFirst p (10 ∷ []) []
empty_line p rest later parses = ([], later, refl, parses, refl)

module _ (p : PlannedShop) (shaped : IsWellShaped p) where
  pub run_parses : (c : Cell) (entries : List Entry) → IsSound p c → AreEvents p c (events_of entries) → ParsesFirst p (entry_lines entries) entries
  run_parses c [] sound events = parses_none p
  run_parses c (ReportEntry r ∷ entries) sound events =
      parses_both p (entry_line (ReportEntry r)) (entry_lines entries) (ReportEntry r ∷ []) entries (parses_entry p shaped (ReportEntry r) (report_of_shop p c r shaped sound events.0))
      (run_parses (after p c (Reported r)) entries (after_report-sound p c r shaped sound events.0) events.1)
  run_parses c (OrderEntry o ∷ entries) sound events =
      let is_of : IsEntryOf p (OrderEntry o) = subst (λ (q : MoveOrder). IsEntryOf p (OrderEntry q)) (sym events.0.0.is_move) (order_of_shop p c o.job o.at shaped sound events.0.0.can) in
      parses_both p (entry_line (OrderEntry o)) (entry_lines entries) (OrderEntry o ∷ []) entries (parses_entry p shaped (OrderEntry o) is_of)
      (run_parses (after p c (Moved o)) entries (after_move-sound p c o.job o.at shaped sound events.0.0.can events.0.1) events.1)

module _ (p : PlannedShop) (shaped : IsWellShaped p) (protocol : Protocol) where
  -- the lines of events that are written again, and an empty line and those of others behind them
  replay_parses : (c : Cell) (recorded : List Entry) (late : List Bool) (rest : List Entry) → length recorded ≡ length late → IsSound p c → AreEvents p c (events_of (recorded ++ rest))
      → ParsesFirst p (replay_lines p protocol c recorded late ++ (10 ∷ entry_lines rest)) (recorded ++ rest)
  replay_parses c [] late rest same sound events = parses_both p (10 ∷ []) (entry_lines rest) [] rest (empty_line p) (run_parses p shaped c rest sound events)
  replay_parses c (entry ∷ recorded) [] rest same sound events = absurd (omega (arith, same))
  replay_parses c (ReportEntry r ∷ recorded) (was_late ∷ late) rest same sound events =
      let next = after p c (Reported r) in
      let overdue = printed_overdue protocol p c r in
      subst (λ (t : List ℕ). ParsesFirst p t (ReportEntry r ∷ (recorded ++ rest))) (sym (append_assoc (replay_line p protocol c (ReportEntry r) was_late) (replay_lines p protocol next recorded late) (10 ∷ entry_lines rest)))
      (parses_both p (replay_line p protocol c (ReportEntry r) was_late) (replay_lines p protocol next recorded late ++ (10 ∷ entry_lines rest)) (ReportEntry r ∷ []) (recorded ++ rest)
      (parses_both p (entry_line (ReportEntry r)) (lateness_part [] (at r) was_late overdue) (ReportEntry r ∷ []) [] (parses_entry p shaped (ReportEntry r) (report_of_shop p c r shaped sound events.0)) (lateness_parses p (at r) was_late overdue))
      (replay_parses next recorded late rest (omega (arith, same)) (after_report-sound p c r shaped sound events.0) events.1))
  replay_parses c (OrderEntry o ∷ recorded) (was_late ∷ late) rest same sound events =
      let next = after p c (Moved o) in
      let is_of : IsEntryOf p (OrderEntry o) = subst (λ (q : MoveOrder). IsEntryOf p (OrderEntry q)) (sym events.0.0.is_move) (order_of_shop p c o.job o.at shaped sound events.0.0.can) in
      subst (λ (t : List ℕ). ParsesFirst p t (OrderEntry o ∷ (recorded ++ rest))) (sym (append_assoc (entry_line (OrderEntry o)) (replay_lines p protocol next recorded late) (10 ∷ entry_lines rest)))
      (parses_both p (entry_line (OrderEntry o)) (replay_lines p protocol next recorded late ++ (10 ∷ entry_lines rest)) (OrderEntry o ∷ []) (recorded ++ rest) (parses_entry p shaped (OrderEntry o) is_of)
      (replay_parses next recorded late rest (omega (arith, same)) (after_move-sound p c o.job o.at shaped sound events.0.0.can events.0.1) events.1))

  again_parses : (entries : List Entry) (late : List Bool) → AreEvents p (start p) (events_of entries) → length late ≤ length entries → ParsesFirst p (again_text p protocol entries late) entries
  again_parses entries late events few =
      let parts : take (length late) entries ++ drop (length late) entries ≡ entries = take-append-drop (length late) entries in
      subst (λ (es : List Entry). ParsesFirst p (again_text p protocol entries late) es) parts
      (replay_parses (start p) (take (length late) entries) late (drop (length late) entries) (length-take-le (length late) entries few) (start-sound p shaped) (subst (λ (es : List Entry). AreEvents p (start p) (events_of es)) (sym parts) events))

-- a text that records a run, and answers behind it, are a log
pub log_behind : (p : PlannedShop) (shaped : IsWellShaped p) (entries : List Entry) (again answers closing : List ℕ) (end : DrivenCell) → IsRun p (events_of entries) → ParsesFirst p again entries
    → AreParsed p shaped (driven_so_far p entries) answers end → (closing ≡ []) ⊎ CellCloses p end closing → IsLogOf p (again ++ (answers ++ closing)) end
log_behind p shaped entries again answers closing end events first on closes =
    let both : ParsesFirst p (again ++ (answers ++ closing)) (entries ++ (on.more ++ [])) =
    parses_both p again (answers ++ closing) entries (on.more ++ []) first
    (parses_both p answers closing on.more [] on.parses (closing_part p end closing closes)) in
    let parses : LinesParse p (lines_of ((again ++ (answers ++ closing)) ++ [])) ((entries ++ (on.more ++ [])) ++ []) = both [] [] refl in
    let same_entries : (entries ++ (on.more ++ [])) ++ [] ≡ end.entries = append-nil (entries ++ (on.more ++ [])) ∙ ap (λ (es : List Entry). entries ++ es) (append-nil on.more) ∙ sym on.entries in
    let joined : events_of end.entries ≡ events_of entries ++ events_of on.more = ap events_of on.entries ∙ events-join entries on.more in
    record {
      parses = subst (λ (t : List ℕ). LinesParse p (lines_of t) end.entries) (append-nil (again ++ (answers ++ closing)))
          (subst (λ (es : List Entry). LinesParse p (lines_of ((again ++ (answers ++ closing)) ++ [])) es) same_entries parses);
      run = subst (IsRun p) (sym joined) (events_join p (start p) (events_of entries) (events_of on.more) events on.events);
      cell = on.cell ∙ sym (after_all_join p (start p) (events_of entries) (events_of on.more)) ∙ ap (after_all p (start p)) (sym joined);
    }

-- the cell after a run to rest
pub rests_on_course : (p : PlannedShop) (entries : List Entry) → IsWellShaped p → IsRunToRest p entries → IsOnCourse p (cell_after p entries)
rests_on_course p entries shaped run = record { shaped = shaped; sound = run-sound p (events_of entries) shaped run.0; rest = run.1 }

-- they and answers behind them are a log
goes_on : (p : PlannedShop) (protocol : Protocol) (entries : List Entry) (late : List Bool) (lines : List (Option (List ℕ))) (answers closing : List ℕ) (end : DrivenCell) → IsWellShaped p
    → IsRunToRest p entries → length late ≤ length entries → AnswerAll (ProtocolAnswers p protocol) (driven_so_far p entries) 1 lines answers end
    → (closing ≡ []) ⊎ CellCloses p end closing → IsLogOf p (again_text p protocol entries late ++ (answers ++ closing)) end
goes_on p protocol entries late lines answers closing end shaped run few are closes =
    log_behind p shaped entries (again_text p protocol entries late) answers closing end run.0 (again_parses p shaped protocol entries late run.0 few)
    (answers_parsed p protocol shaped lines (driven_so_far p entries) end 1 answers (rests_on_course p entries shaped run) are) closes

pub a_resumed_text_is_a_log : AResumedTextIsALog
a_resumed_text_is_a_log p protocol entries late input text end shaped run few is =
    subst (λ (t : List ℕ). IsLogOf p t end) (sym is.whole) (goes_on p protocol entries late (input_lines input) is.answers is.closing end shaped run few is.are_answers (inr is.is_closing))

-- ---- cut at any byte

cut_of_log : (p : PlannedShop) (text cut lost : List ℕ) (end : DrivenCell) → text ≡ cut ++ lost → IsLogOf p text end → IsRunPrefix p cut end.entries
cut_of_log p text cut lost end whole log = a_cut_log_is_recovered p cut lost end.entries (subst (λ (t : List ℕ). LinesParse p (lines_of t) end.entries) whole log.parses) log.run

protocol_text_log : (p : PlannedShop) (protocol : Protocol) (lines : List (Option (List ℕ))) (answers closing : List ℕ) (end : DrivenCell) → IsWellShaped p
    → AreProtocolAnswers p protocol lines answers end → (closing ≡ []) ⊎ CellCloses p end closing → IsLogOf p (answers ++ closing) end
protocol_text_log p protocol lines answers closing end shaped are closes =
    let run : IsRunToRest p [] = (tt, start_at_rest p) in
    log_behind p shaped [] [] answers closing end tt (parses_none p) (answers_parsed p protocol shaped lines (driven_so_far p []) end 1 answers (rests_on_course p [] shaped run) are) closes

pub what_was_driven_is_recovered : WhatWasDrivenIsRecovered
what_was_driven_is_recovered p protocol lines answers closing cut lost end shaped are closes whole =
    cut_of_log p (answers ++ closing) cut lost end whole (protocol_text_log p protocol lines answers closing end shaped are closes)

pub what_was_driven_has_its_orders : WhatWasDrivenHasItsOrders
what_was_driven_has_its_orders p protocol lines answers closing cut lost end shaped are closes whole =
    let log = protocol_text_log p protocol lines answers closing end shaped are closes in
    cut_of_led p cut lost end shaped (subst (λ (t : List ℕ). LinesParse p (lines_of t) end.entries) whole log.parses) (protocol_answers_lead p protocol lines (undriven p) end 1 answers are)

pub what_was_resumed_is_recovered : WhatWasResumedIsRecovered
what_was_resumed_is_recovered p protocol entries late lines answers closing cut lost end shaped run few are closes whole =
    cut_of_log p (again_text p protocol entries late ++ (answers ++ closing)) cut lost end whole (goes_on p protocol entries late lines answers closing end shaped run few are closes)

-- ---- one text

pub one_resumed_text : OneResumedText
one_resumed_text p protocol entries late input text other end last shaped run is also =
    let one = one_lines_text p protocol (input_lines input) (driven_so_far p entries) end last 1 is.answers also.answers (rests_on_course p entries shaped run) is.are_answers also.are_answers in
    (also.whole ∙ ap (λ (t : List ℕ). again_text p protocol entries late ++ t) (one_closed p end last is.answers also.answers is.closing also.closing is.is_closing also.is_closing one) ∙ sym is.whole, one.1)

-- ---- a run that was recovered

-- its cell is that after its events, and at rest
pub seen_from : (protocol : Protocol) (recovered : Recovered) → IsRecoveredRun recovered → seen (session_from protocol recovered) ≡ driven_so_far (plan_of recovered) recovered.log.entries
seen_from protocol recovered run = ap (λ (c : Cell). let d : DrivenCell = record { cell = c; entries = recovered.log.entries } in d) run.kept.replayed.cell

pub to_rest : (recovered : Recovered) → IsRecoveredRun recovered → IsRunToRest (plan_of recovered) recovered.log.entries
to_rest recovered run = (run.kept.replayed.run, subst (IsAtRest (plan_of recovered)) run.kept.replayed.cell run.kept.control.at_rest)

pub resumed_text : WhatWasResumedIsSuchAText
resumed_text protocol recovered end before after is =
    let p = plan_of recovered in
    let all = is.streamed.comes_to in
    let lines = input_lines is.streamed.input in
    let answers = a_session_answers_so (session_from protocol recovered) is.end 1 lines all.text all.are_answers in
    record {
      answers = all.text;
      are_answers = subst (λ (d : DrivenCell). AnswerAll (ProtocolAnswers p protocol) d 1 lines all.text (seen is.end)) (seen_from protocol recovered is.from) answers.0;
      closing = all.closing;
      is_closing = seen_closes p is.end all.closing (ap (λ (v : VerifiedPlan). v.planned) answers.1) all.is_closing;
      whole = refl;
    }

pub an_audit_keeps_what_was_resumed : AnAuditKeepsWhatWasResumed
an_audit_keeps_what_was_resumed protocol recovered end before after start text outcome (inl cut) from to kept only = let e = cut.0 in absurd (cc)
an_audit_keeps_what_was_resumed protocol recovered end before after start text outcome (inr is) from to kept only =
    let p = plan_of recovered in
    let all = is.streamed.comes_to in
    let came_to = is.came_to in
    let again = again_of protocol recovered in
    let whole : List ℕ = again ++ (all.text ++ all.closing) in
    found_of p end.log.entries is.end.log.entries is.end.control.cell end.done end.last end.left before after start text whole outcome
    (Appends-trans before.output.written is.middle.written after.output.written again (all.text ++ all.closing) is.again all.written)
    (a_resumed_text_is_a_log p protocol recovered.log.entries recovered.late is.streamed.input whole (seen is.end) is.from.kept.shaped (to_rest recovered is.from) is.from.within (resumed_text protocol recovered end before after is))
    (ap (λ (l : Noted). l.entries) (sym came_to.log)) came_to.so_far from to kept only

-- a cut of what it writes can be recovered again
pub is_recoverable : (p : PlannedShop) (log : List (List ℕ)) (at : Option ℕ) (recovered : Recovered) (cut : List ℕ) (entries : List Entry) → IsRecovered p log at recovered → IsRunPrefix p cut entries
    → IsAcceptable p ⊎ (LinesParse p (ended_lines cut) [] → replayed_events recovered ≡ []) → IsRecoverable p (ended_lines cut) None
is_recoverable p log at recovered cut entries up again which =
    let from = up.recovered_from in
    let ranks : AreRanks p recovered.control.times = subst (λ (q : PlannedShop). AreRanks q recovered.control.times) from.planned from.run.kept.control.ranks in
    record {
      recorded = again.recorded;
      parses = again.parses;
      is_run = again.run;
      not_past = omega arith;
      acyclic = λ nodes cycle. ranks_exclude_cycle p (rank_of recovered.control.times) nodes ranks.rise cycle;
      accepted = accepted which;
    }
  where
    accepted : IsAcceptable p ⊎ (LinesParse p (ended_lines cut) [] → replayed_events recovered ≡ []) → again.recorded ≡ [] → IsAcceptable p
    accepted (inl acceptable) none = acceptable
    accepted (inr only) none =
        up.recovered_from.accepted (sym up.recovered_from.replayed_is ∙ only (subst (λ (es : List Entry). LinesParse p (ended_lines cut) es) none again.parses))

-- its events are a run to rest of the plan by which it was recovered
pub recovered_to_rest : (p : PlannedShop) (log : List (List ℕ)) (at : Option ℕ) (recovered : Recovered) → IsRecovered p log at recovered → IsWellShaped p × IsRunToRest p recovered.log.entries
recovered_to_rest p log at recovered up =
    let from = up.recovered_from in (
      subst IsWellShaped from.planned from.run.kept.shaped,
      subst (λ (q : PlannedShop). IsRunToRest q recovered.log.entries) from.planned (to_rest recovered from.run),
    )

-- ---- cut again

pub what_was_resumed_is_recoverable : WhatWasResumedIsRecoverable
what_was_resumed_is_recoverable p protocol log at recovered lines answers closing cut lost end up are closes whole which =
    let to = recovered_to_rest p log at recovered up in
    is_recoverable p log at recovered cut end.entries up
    (what_was_resumed_is_recovered p protocol recovered.log.entries recovered.late lines answers closing cut lost end to.0 to.1 up.recovered_from.run.within are closes whole) which

-- where steps of the controlled run lead on from the cell that was recovered, it goes on from the cell of its log
pub goes_on_from : (recovered : Recovered) (s : SessionState) (end : RestEnd) → IsRecoveredRun recovered → AreLed (plan_of recovered) (record { cell = recovered.control.cell; entries = recovered.log.entries }) (seen s) → IsRestEndOf (plan_of recovered) s end → ContinuesFrom recovered end
goes_on_from recovered s end from led came_to =
    let p = plan_of recovered in
    let control = recovered.control in
    let begun = from.begun.settled in
    let c = replayed_cell recovered in
    let t = control.began in
    let later : List Entry = map OrderEntry control.orders ++ led.more in
    let entries : s.log.entries ≡ end.log.entries = ap (λ (l : Noted). l.entries) (sym came_to.log) in
    let events : events_of later ≡ moved (orders_for p c t begun.movers) ++ events_of led.more =
    events-join (map OrderEntry control.orders) led.more ∙ ap (λ es. es ++ events_of led.more) (events-orders control.orders ∙ ap moved begun.orders_are) in
    let leads : Leads p (after_moves p c t begun.movers) led.reports (events_of led.more) (seen s).cell =
    subst (λ (d : Cell). Leads p d led.reports (events_of led.more) (seen s).cell) begun.leads led.leads in
    record {
      later = later;
      whole = sym entries ∙ led.entries ∙ ap (λ (es : List Entry). es ++ led.more) from.due ∙ append_assoc (replayed_events recovered) (map OrderEntry control.orders) led.more;
      reports = led.reports;
      goes_on = subst (λ (d : Cell). GoesOnTo p c t led.reports (events_of later) d) came_to.cell
          (subst (λ es. GoesOnTo p c t led.reports es (seen s).cell) (sym events)
          (settled begun.movers led.reports (events_of led.more) (seen s).cell begun.settles leads));
    }

pub what_was_resumed_goes_on : WhatWasResumedGoesOn
what_was_resumed_goes_on text protocol recovered end before after is =
    let p = plan_of recovered in
    let all = is.streamed.comes_to in
    let lines = input_lines is.streamed.input in
    let answers = a_session_answers_so (session_from protocol recovered) is.end 1 lines all.text all.are_answers in
    goes_on_from recovered is.end end is.from (protocol_answers_lead p protocol lines (seen (session_from protocol recovered)) (seen is.end) 1 all.text answers.0) is.came_to
