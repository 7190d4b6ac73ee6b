-- A log that is recovered.
use Rattle.std.proofs.Common.{◌≡◌, ℕ, ◌+◌, ◌*◌, ◌<◌, ◌≤◌, Bool, List, [], ◌∷◌, ◌++◌, length, map, take, Option, None, Some, Result, Ok, Err, refl, sym, ap, ◌∙◌, subst, arith, length-append}
use Rattle.std.proofs.{Math.Seq.take-append_seam, lemmas.List.length-map}
use Rattle.std.specs.Prelude.{unwrap_or, IsOk, IsErr, IfSome}
use Rattle.shop_base.specs.declared.limits.TheConstants.{MAX_MOMENT}
use Rattle.shop_base.specs.{Plan.{PlannedShop, IsWellShaped}, Cell.{Cell, start}, Run.{IsRun, after}}
use Rattle.shop_base.specs.Ends.{stated_number}
use Rattle.shop_base.proofs.ControlledRuns.{moves-events}
use Rattle.alt_graph.proofs.CycleParts.{cycle_simple}
use Rattle.plan_verifier.specs.declared.verdict.Why.TheVariants.{Cycle, Late}
use Rattle.cell_tables.specs.declared.entry.Entry.{Entry, TheVariants.Order as OrderEntry}
use Rattle.cell_tables.specs.{Events.{event_of, events_of}, Rests.{present_of, IsPresentFault}}
use Rattle.cell_tables.specs.declared.present_fault.PresentFault.{PresentFault, TheVariants.{Past, TooLarge}}
use Rattle.event_lines.proofs.Readings.{one_reading}
use Rattle.run_log.specs.{Log.Noted, Audits.IsReplayed, Present.IsRunAt, declared.present_run.RunFault.TheVariants.{Log, Present}}
use Rattle.run_log.proofs.Audits.{run-few, first_bad-no_run}
use Rattle.cell_control.specs.{Control.{Control, IsControl}, Begun.{IsBegun, IsRestFault}}
use Rattle.cell_control.specs.declared.rest_fault.RestFault.{RestFault, TheVariants.{Cycle as CycleOfRest, Memory as MemoryOfRest}}
use Rattle.cell_drive.specs.{OneRun.cell_after, LateEvents.AreLate, ResumeFaults.{IsOnlyLogFault, IsResumeFault, IsStartRefusal, undriven_fault}}
use Rattle.cell_drive.specs.Recovered.{Recovered, IsRecoveredRun, IsRecoveredFrom, IsRecovered, IsRecoverable, recovered_by}
use Rattle.cell_drive.specs.declared.resume_fault.ResumeFault.{ResumeFault, TheVariants.{Run, Refused, Memory}}
use Rattle.cell_drive.proofs.Rooms.{replayed_moves}

-- it is known of each event whether it is late
pub late_length : (p : PlannedShop) (c : Cell) (entries : List Entry) (late : List Bool) → AreLate p c entries late → length late ≡ length entries
late_length p c [] late none = ap length none
late_length p c (entry ∷ entries) [] are = absurd are
late_length p c (entry ∷ entries) (f ∷ late) are = omega (arith, late_length p (after p c (event_of entry)) entries late are.1)

-- what isn't refused is done
pub done_unless : {T E : Type 0} (r : Result T E) → (IsErr r → ⊥) → IsOk r
done_unless (Ok x) never = refl
done_unless (Err e) never = absurd (never refl)

-- ---- the orders that are due, noted behind the events of a log

module _ (control : Control) (entries : List Entry) (late : List Bool) (run : IsRun control.planned (events_of entries))
    (begun : IsBegun control.planned (cell_after control.planned entries) control.began control) where
  abbrev p : PlannedShop
  p = control.planned

  abbrev with_orders : List Entry
  with_orders = entries ++ map OrderEntry control.orders

  -- they go on with the run
  replayed_with_orders : IsReplayed p control.cell with_orders
  replayed_with_orders =
      let settled = begun.settled in
      subst (λ (c : Cell). IsReplayed p c with_orders) (sym settled.leads)
      (replayed_moves p (cell_after p entries) control.began settled.movers entries control.orders (record { run = run; cell = refl })
      (moves-events p (cell_after p entries) control.began settled.movers settled.settles.moves) settled.orders_are)

  -- and there is room for them
  pub room_for_due : IsWellShaped p → length entries + length control.orders ≤ 2 * stated_number p
  room_for_due shaped =
      omega (arith, run-few p with_orders shaped replayed_with_orders.run, length-append entries (map OrderEntry control.orders), length-map control.orders OrderEntry)

  pub replayed_first : AreLate p (start p) entries late → take (length late) with_orders ≡ entries
  replayed_first are = ap (λ n. take n with_orders) (late_length p (start p) entries late are) ∙ take-append_seam entries (map OrderEntry control.orders)

  pub recovered_run : (log : Noted) → IsWellShaped p → IsControl control → log.entries ≡ with_orders → log.reserved ≡ 2 * stated_number p → AreLate p (start p) entries late
      → IsRecoveredRun (recovered_by control log late)
  recovered_run log shaped is_control noted reserved are =
      let recorded : take (length late) log.entries ≡ entries = ap (take (length late)) noted ∙ replayed_first are in
      record {
        kept = record {
          shaped = shaped;
          control = is_control;
          replayed = subst (λ (es : List Entry). IsReplayed p control.cell es) (sym noted) replayed_with_orders;
          reserved = reserved;
        };
        begun = subst (λ (es : List Entry). IsBegun p (cell_after p es) control.began control) (sym recorded) begun;
        due = noted ∙ ap (λ (es : List Entry). es ++ map OrderEntry control.orders) (sym recorded);
        within = omega (arith, late_length p (start p) entries late are, ap length noted, length-append entries (map OrderEntry control.orders));
        are_late = subst (λ (es : List Entry). AreLate p (start p) es late) (sym recorded) are;
      }

-- ---- the run of a log

-- the present moment is said in two ways
present_is : (at : Option ℕ) (last : ℕ) → present_of at last ≡ unwrap_or at last
present_is None last = refl
present_is (Some n) last = refl

module _ (p : PlannedShop) (lines : List (List ℕ)) (at : Option ℕ) (c : Cell) (recorded : List Entry) (present : ℕ) (run : IsRunAt lines at p c recorded present) where
  present_given : present ≡ unwrap_or at (cell_after p recorded).last
  present_given = run.present_is.0 ∙ present_is at c.last ∙ ap (λ (x : Cell). unwrap_or at x.last) run.replayed.cell

  -- what was recovered at the present moment was so by the lines
  pub recovered_by_lines : (recovered : Recovered) → IsRecoveredFrom p recorded (Some present) recovered → IsRecovered p lines at recovered
  recovered_by_lines recovered from = record {
    recorded = recorded;
    parses = run.parses;
    is_run = run.replayed.run;
    recovered_from = record { run = from.run; planned = from.planned; replayed_is = from.replayed_is; began = from.began ∙ present_given; accepted = from.accepted };
  }

  -- the refusal of a plan is the fault
  pub refused_by_lines : (fault : ResumeFault) → IsStartRefusal p (recorded ≡ []) fault → IsResumeFault p lines at fault
  refused_by_lines (Run fault) is = absurd is
  refused_by_lines (Refused back why) is =
      let last : c.last ≡ (cell_after p recorded).last = ap (λ (x : Cell). x.last) run.replayed.cell in
      (recorded, run.parses, run.replayed.run, (omega (arith, run.present_is.1, present_given, last), is))
  refused_by_lines Memory is = tt

-- a plan that is refused isn't a fault of the log
pub refused_only : (p : PlannedShop) (Starts : Type 0) (lines : List (List ℕ)) (fault : ResumeFault) → IsStartRefusal p Starts fault → IsOnlyLogFault p lines fault
refused_only p Starts lines (Run fault) is = absurd is
refused_only p Starts lines (Refused back why) is = tt
refused_only p Starts lines Memory is = tt

-- a moment that is past is before the last one
pub past_before : (at : Option ℕ) (last moment : ℕ) → IsPresentFault at last (Past moment) → unwrap_or at last < last
past_before None last moment is = absurd is
past_before (Some n) last moment is = is.0

-- a moment that can't be the present one isn't that of a run that can be recovered
not_present : (at : Option ℕ) (last : ℕ) (fault : PresentFault) → IfSome at (λ present. present ≤ MAX_MOMENT) → IsPresentFault at last fault → last ≤ unwrap_or at last → ⊥
not_present at last (Past moment) low is not_past = omega (arith, past_before at last moment is, not_past)
not_present None last TooLarge low is not_past = is
not_present (Some n) last TooLarge low is not_past = omega (arith, is.1, low)

-- what can be recovered is refused only where memory ran out
pub only_memory : (p : PlannedShop) (lines : List (List ℕ)) (at : Option ℕ) (fault : ResumeFault) → IfSome at (λ present. present ≤ MAX_MOMENT) → IsResumeFault p lines at fault → IsRecoverable p lines at → fault ≡ Memory
only_memory p lines at Memory low is can = refl
only_memory p lines at (Run (Log fault)) low is can = absurd (first_bad-no_run p lines fault is (can.recorded, can.parses, can.is_run))
only_memory p lines at (Run (Present fault)) low (c, there, is) can =
    let same : there.entries ≡ can.recorded = one_reading p lines there.entries can.recorded there.parse can.parses in
    let last : c.last ≡ (cell_after p can.recorded).last = ap (λ (x : Cell). x.last) there.run.cell ∙ ap (λ (es : List Entry). (cell_after p es).last) same in
    absurd (not_present at (cell_after p can.recorded).last fault low (subst (λ n. IsPresentFault at n fault) last is) can.not_past)
only_memory p lines at (Refused back (Cycle nodes)) low (recorded, parses, run, is) can = absurd (can.acyclic nodes.items (cycle_simple p nodes.items is.1.1))
only_memory p lines at (Refused back (Late job leaves chain times)) low (recorded, parses, run, is) can =
    let same : recorded ≡ can.recorded = one_reading p lines recorded can.recorded parses can.parses in
    let acceptable = can.accepted (sym same ∙ is.1.1.0) in
    let late = is.1.1.1.0 in
    absurd (omega (arith, late.past, acceptable.budgets job late.job chain.items leaves late.path))

-- a rest that isn't driven is that of a plan that is refused
pub undriven_refused : (p : PlannedShop) (Starts : Type 0) (fault : RestFault) (back : PlannedShop) → back ≡ p → IsRestFault p fault → IsStartRefusal p Starts (undriven_fault fault back)
undriven_refused p Starts (CycleOfRest nodes) back same is = (same, is)
undriven_refused p Starts MemoryOfRest back same is = tt
