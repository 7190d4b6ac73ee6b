-- The log of a session, and the room in it.
use Rattle.std.proofs.Common.{◌≡◌, ◌+◌, ◌*◌, ◌≤◌, ℕ, List, ◌∷◌, ◌++◌, length, map, Bool, sym, ap, ◌∙◌, arith, subst, length-append, ◌↔◌}
use Rattle.std.specs.Prelude.{IsTrue}
use Rattle.shop_base.specs.{declared.move_order.MoveOrder.MoveOrder, declared.report.Report.Report, Cell.{Cell, start}}
use Rattle.shop_base.specs.{Plan.{PlannedShop, IsWellShaped}, Report.{at, after_report}, Ends.{stated_number, HasEnded}}
use Rattle.shop_base.specs.{Run.{IsRun, AreEvents, after_all}, Controlled.{moved, orders_for, after_moves, step_orders}}
use Rattle.shop_base.specs.ReportsLeft.{reports_left}
use Rattle.shop_base.proofs.ControlledRuns.{events_join, after_all_join, moves-events, after_all-moves}
use Rattle.shop_base.proofs.{StatedNumber.run-stated_number, ReportsLeft.{ended_where_none, none_where_ended}}
use Rattle.cell_control.specs.{declared.ack.Ack.Ack, Control.{Control, IsControl, IsAnswered}}
use Rattle.cell_tables.specs.declared.entry.Entry.{Entry, TheVariants.{Report as ReportEntry, Order as OrderEntry}}
use Rattle.cell_tables.specs.Events.{events_of}
use Rattle.run_log.specs.{Log.{Noted, Notes}, Audits.IsReplayed}
use Rattle.run_log.proofs.Audits.{events-join, run-few}
use Rattle.cell_drive.specs.{OneRun.{cell_after, IsSoFar, IsNeverFull}, Session.HoldsRun}
use Rattle.cell_drive.proofs.Parts.{events-orders}

-- events behind a run that was recorded
pub replayed_on : (p : PlannedShop) (c : Cell) (entries more : List Entry) → IsReplayed p c entries → AreEvents p c (events_of more)
    → IsReplayed p (after_all p c (events_of more)) (entries ++ more)
replayed_on p c entries more replayed events =
    let joined : events_of (entries ++ more) ≡ events_of entries ++ events_of more = events-join entries more in
    record {
      run = subst (IsRun p) (sym joined) (events_join p (start p) (events_of entries) (events_of more) replayed.run (subst (λ (d : Cell). AreEvents p d (events_of more)) replayed.cell events));
      cell = ap (λ (d : Cell). after_all p d (events_of more)) replayed.cell ∙ sym (after_all_join p (start p) (events_of entries) (events_of more)) ∙ ap (after_all p (start p)) (sym joined);
    }

-- moves behind it
pub replayed_moves : (p : PlannedShop) (c : Cell) (t : ℕ) (js : List ℕ) (entries : List Entry) (orders : List MoveOrder) → IsReplayed p c entries → AreEvents p c (moved (orders_for p c t js))
    → orders ≡ orders_for p c t js → IsReplayed p (after_moves p c t js) (entries ++ map OrderEntry orders)
replayed_moves p c t js entries orders replayed events are =
    let same : events_of (map OrderEntry orders) ≡ moved (orders_for p c t js) = events-orders orders ∙ ap moved are in
    subst (λ (d : Cell). IsReplayed p d (entries ++ map OrderEntry orders)) (ap (after_all p c) same ∙ after_all-moves p c t js)
    (replayed_on p c entries (map OrderEntry orders) replayed (subst (AreEvents p c) (sym same) events))

module _ (control : Control) (log : Noted) (report : Report) (ack : Ack) (after : Control) (kept : HoldsRun control log) (answered : IsAnswered control report ack after) where
  abbrev p : PlannedShop
  p = control.planned

  abbrev new_entries : List Entry
  new_entries = ReportEntry report ∷ map OrderEntry after.orders

  replayed_after : IsReplayed p after.cell (log.entries ++ new_entries)
  replayed_after =
      let c = control.cell in
      let next = after_report c report in
      let same : events_of (map OrderEntry after.orders) ≡ moved (step_orders p c report answered.movers) = events-orders after.orders ∙ ap moved answered.orders in
      let events : AreEvents p c (events_of new_entries) =
      (answered.step.can, subst (AreEvents p next) (sym same) (moves-events p next (at report) answered.movers answered.step.moves)) in
      subst (λ (d : Cell). IsReplayed p d (log.entries ++ new_entries)) (ap (after_all p next) same ∙ after_all-moves p next (at report) answered.movers ∙ sym answered.cell)
      (replayed_on p c log.entries new_entries kept.replayed events)

  -- the log has room for it
  pub room_for : length log.entries + length new_entries ≤ log.reserved
  room_for =
      let few = run-few p (log.entries ++ new_entries) kept.shaped replayed_after.run in
      let reserved = kept.reserved in
      omega (arith, few, reserved, length-append log.entries new_entries)

  -- and with it there is a run of the plan again
  pub kept_more : (longer : Noted) → Notes log longer new_entries → IsControl after → HoldsRun after longer
  kept_more longer notes still =
      let same_plan : after.planned ≡ control.planned = answered.planned in
      record {
        shaped = subst IsWellShaped (sym same_plan) kept.shaped;
        control = still;
        replayed = subst (λ (q : PlannedShop). IsReplayed q after.cell longer.entries) (sym same_plan)
            (subst (λ (es : List Entry). IsReplayed p after.cell es) (sym notes.entries) replayed_after);
        reserved = notes.reserved ∙ kept.reserved ∙ ap (λ (q : PlannedShop). 2 * stated_number q) (sym same_plan);
      }

-- how far the run of a log is
pub so_far : (control : Control) (log : Noted) → HoldsRun control log → (is_done : Bool) (last left : ℕ) → IsTrue is_done ↔ HasEnded control.planned control.cell → last ≡ control.cell.last
    → left ≡ reports_left control.planned control.cell → IsSoFar control.planned log.entries is_done last left
so_far control log kept is_done last left ended moment count_is =
    let p = control.planned in
    let cell_is : control.cell ≡ cell_after p log.entries = kept.replayed.cell in
    let count = run-stated_number p (events_of log.entries) kept.shaped kept.replayed.run in
    let left_there : reports_left p (cell_after p log.entries) ≡ left = ap (reports_left p) (sym cell_is) ∙ sym count_is in
    record {
      ended = ((λ is. subst (HasEnded p) cell_is (ended.0 is)), λ has. ended.1 (subst (HasEnded p) (sym cell_is) has));
      counted = (
        (λ is. (let none = none_where_ended p control.cell kept.shaped kept.control.sound (ended.0 is) in omega (arith, count, left_there, count_is, none))),
        λ all. ended.1 (ended_where_none p control.cell kept.control.sound kept.control.at_rest (omega (arith, count, left_there, count_is, all))),
      );
      rest = omega (arith, count, left_there);
      moment = moment ∙ ap (λ (c : Cell). c.last) cell_is;
    }

-- it was never full
pub never_full : (control : Control) (log : Noted) → HoldsRun control log → IsNeverFull control.planned log
never_full control log kept =
    let few = run-few control.planned log.entries kept.shaped kept.replayed.run in
    let reserved = kept.reserved in
    record { reserved = reserved; fits = omega (arith, few, reserved) }
