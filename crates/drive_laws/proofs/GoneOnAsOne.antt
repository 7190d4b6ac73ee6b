-- A run that is recovered by its own plan goes on as one run.
use Rattle.std.proofs.Common.{◌≡◌, List, ◌++◌, map, length, None, refl, sym, ap, ap₂, ◌∙◌, subst, arith, append_assoc}
use Rattle.shop_base.specs.{declared.{move_order.MoveOrder.MoveOrder, report.Report.Report}, Cell.{Cell, start}}
use Rattle.shop_base.specs.{Plan.{PlannedShop, IsWellShaped}, Run.{Event, after_all}, Ahead.{GoesOnTo, settled}}
use Rattle.shop_base.specs.Controlled.{after_moves, moved, Leads}
use Rattle.shop_base.proofs.ControlledRuns.{after_all_join, after_all-moves}
use Rattle.cell_tables.specs.{declared.entry.Entry.{Entry, TheVariants.Order as OrderEntry}, Events.events_of}
use Rattle.run_log.proofs.Audits.{events-join}
use Rattle.cell_drive.specs.{AnswerText.DrivenCell, OneRun.{cell_after, IsRunOf}, Resuming.driven_so_far}
use Rattle.cell_drive.specs.Recovered.{plan_of, replayed_events, Recovered}
use Rattle.cell_drive.proofs.{CutLogs.{AreLed, leads_join, run_of_leads, protocol_answers_lead}, CutRuns.cut_of_run}
use Rattle.cell_drive.proofs.{OwnRuns.{own_run, run_of_own, due_events}, Parts.entries_moved}
use Rattle.cell_drive.proofs.PromisesKept.{stays_as_promised}
use Rattle.drive_laws.specs.OneRunLaw.{IsRecoveredByItsPlan, ItIsRecoveredAsOne, ItIsOneSoFar, ADrivenRunGoesOnAsOne, ItStaysAsPromised, TheFirstEventsHaveTheirOrders, WhatWasResumedHasItsOrders}
use Rattle.drive_laws.proofs.Resumes.{recovered_to_rest, what_was_resumed_is_recovered}
use Rattle.drive_laws.proofs.SettledCuts.{settles_by_these, from_these, it_is_recovered_with_its_orders}

-- events to which a controlled run leads on, behind its own
run_behind : (p : PlannedShop) (entries more : List Entry) (reports : List Report) (end : Cell) → IsWellShaped p → IsRunOf p entries → Leads p (cell_after p entries) reports (events_of more) end → IsRunOf p (entries ++ more)
run_behind p entries more reports end shaped run leads =
    run_of_leads p (run.0 ++ reports) (entries ++ more) end shaped
    (subst (λ es. Leads p (start p) (run.0 ++ reports) es end) (sym (events-join entries more))
    (leads_join p (start p) (cell_after p entries) end run.0 reports (events_of entries) (events_of more) run.1 leads))

run_so_far : (p : PlannedShop) (entries : List Entry) (end : DrivenCell) → IsWellShaped p → IsRunOf p entries → AreLed p (driven_so_far p entries) end → IsRunOf p end.entries
run_so_far p entries end shaped run led = subst (IsRunOf p) (sym led.entries) (run_behind p entries led.more led.reports end.cell shaped run led.leads)

pub it_is_one_so_far : ItIsOneSoFar
it_is_one_so_far p protocol entries number lines text end shaped run all = run_so_far p entries end shaped run (protocol_answers_lead p protocol lines (driven_so_far p entries) end number text all)

-- ---- recovered

module _ (p : PlannedShop) (recovered : Recovered) (is : IsRecoveredByItsPlan p recovered) where
  shaped_there : IsWellShaped p
  shaped_there = (recovered_to_rest p is.lines None recovered is.up).0

  entries_there : recovered.log.entries ≡ is.recorded ++ map OrderEntry is.due
  entries_there =
      let with_orders = it_is_recovered_with_its_orders p is.lines is.recorded is.due recovered shaped_there is.log is.up in
      is.up.recovered_from.run.due ∙ ap₂ (λ (es : List Entry) (os : List MoveOrder). es ++ map OrderEntry os) with_orders.0 with_orders.1

  -- its log and the orders that were due
  abbrev whole : List Entry
  whole = is.recorded ++ map OrderEntry is.due

  one_there : IsRunOf p whole
  one_there = run_of_own p whole is.log.run

  abbrev replayed_end : Cell
  replayed_end = cell_after p is.recorded

  -- as one with what goes on from there
  gone_on : (reports : List Report) (events : List Event) (end : Cell) → GoesOnTo p replayed_end replayed_end.last reports events end → (later : List Entry) → events_of later ≡ events → IsRunOf p (is.recorded ++ later)
  gone_on _ _ _ (settled js reports events end settles leads) later same =
      let orders = settles_by_these p is.recorded is.due is.lines js shaped_there is.log settles in
      let there : cell_after p whole ≡ after_moves p replayed_end replayed_end.last js =
      ap (after_all p (start p)) (due_events is.recorded is.due) ∙ after_all_join p (start p) (events_of is.recorded) (moved is.due)
      ∙ ap (λ (os : List MoveOrder). after_all p replayed_end (moved os)) (sym orders) ∙ after_all-moves p replayed_end replayed_end.last js in
      let (rest, split, behind) = entries_moved later is.due events (same ∙ ap (λ (os : List MoveOrder). moved os ++ events) orders) in
      let leads_on : Leads p (cell_after p whole) reports (events_of rest) end =
      subst (λ (c : Cell). Leads p c reports (events_of rest) end) (sym there)
      (subst (λ es. Leads p (after_moves p replayed_end replayed_end.last js) reports es end) (sym behind) leads) in
      subst (IsRunOf p) (append_assoc is.recorded (map OrderEntry is.due) rest ∙ ap (λ (es : List Entry). is.recorded ++ es) (sym split))
      (run_behind p whole rest reports end shaped_there one_there leads_on)

pub it_is_recovered_as_one : ItIsRecoveredAsOne
it_is_recovered_as_one p recovered is = subst (IsRunOf p) (sym (entries_there p recovered is)) (one_there p recovered is)

pub a_driven_run_goes_on_as_one : ADrivenRunGoesOnAsOne
a_driven_run_goes_on_as_one p recovered end is on =
    let from = from_these p is.lines is.recorded is.due recovered is.log is.up in
    let last : Cell = cell_after (plan_of recovered) end.log.entries in
    let goes_on : GoesOnTo p (cell_after p is.recorded) (cell_after p is.recorded).last on.reports (events_of on.later) last =
    subst (λ t. GoesOnTo p (cell_after p is.recorded) t on.reports (events_of on.later) last) from.began
    (subst (λ (es : List Entry). GoesOnTo p (cell_after p es) recovered.control.began on.reports (events_of on.later) last) from.replayed_is
    (subst (λ (q : PlannedShop). GoesOnTo q (cell_after q (replayed_events recovered)) recovered.control.began on.reports (events_of on.later) last) from.planned on.goes_on)) in
    subst (IsRunOf p) (sym (on.whole ∙ ap (λ (es : List Entry). es ++ on.later) from.replayed_is)) (gone_on p recovered is on.reports (events_of on.later) last goes_on on.later refl)

pub it_stays_as_promised : ItStaysAsPromised
it_stays_as_promised v recovered end verified is on =
    let run = a_driven_run_goes_on_as_one v.planned recovered end is on in
    stays_as_promised v run.0 (events_of end.log.entries) (cell_after v.planned end.log.entries) verified run.1

-- ---- cut again

pub the_first_events_have_their_orders : TheFirstEventsHaveTheirOrders
the_first_events_have_their_orders p log entries shaped run from =
    let a = from.recorded in
    let b = from.later in
    let events : events_of entries ≡ events_of a ++ events_of b = ap events_of from.whole ∙ events-join a b in
    let leads : Leads p (start p) run.0 (events_of a ++ events_of b) (cell_after p entries) = subst (λ es. Leads p (start p) run.0 es (cell_after p entries)) events run.1 in
    let cut_run = cut_of_run (length (events_of a)) p (start p) (cell_after p entries) run.0 (events_of a) (events_of b) (omega arith) leads in
    let (later, split, rest) = entries_moved b cut_run.due cut_run.rest cut_run.split in
    record {
      recorded = a;
      due = cut_run.due;
      log = record {
        parses = from.parses;
        run = own_run p (a ++ map OrderEntry cut_run.due) (run_of_leads p cut_run.reports (a ++ map OrderEntry cut_run.due) cut_run.end shaped
            (subst (λ es. Leads p (start p) cut_run.reports es cut_run.end) (sym (due_events a cut_run.due)) cut_run.leads));
      };
      later = later;
      whole = from.whole ∙ ap (λ (es : List Entry). a ++ es) split ∙ sym (append_assoc a (map OrderEntry cut_run.due) later);
    }

pub what_was_resumed_has_its_orders : WhatWasResumedHasItsOrders
what_was_resumed_has_its_orders p protocol recovered lines answers closing cut lost end is are closes whole =
    let entries = recovered.log.entries in
    let (shaped, run) = recovered_to_rest p is.lines None recovered is.up in
    the_first_events_have_their_orders p cut end.entries shaped
    (run_so_far p entries end shaped (it_is_recovered_as_one p recovered is) (protocol_answers_lead p protocol lines (driven_so_far p entries) end 1 answers are))
    (what_was_resumed_is_recovered p protocol entries recovered.late lines answers closing cut lost end shaped run is.up.recovered_from.run.within are closes whole)
