-- A run of two plans keeps the other: each event that can happen by both keeps it on.
use Rattle.std.proofs.Common.{length, ◌≡◌, ◌≢◌, ℕ, ◌<◌, ◌≤◌, inl, inr, List, [], ◌∷◌, ◌++◌, get_or, Option, None, Some, is_some, if◌then◌else◌, le_refl, refl, sym, ap, ◌∙◌, subst, arith}
use Rattle.std.proofs.{lemmas.Bool.{cases_eq, cases_lt}, lemmas.List.get_or-replicate}
use Rattle.shop_base.specs.{declared.job_state.JobState.JobState, declared.move_order.MoveOrder.MoveOrder}
use Rattle.shop_base.specs.{declared.move_order.Spot.TheVariants.{Out, At}, ReportsLeft.{departures}}
use Rattle.shop_base.specs.{declared.report.Report.{Report, TheVariants.{Arrive, Finish, Clean}}, Sound.IsSound}
use Rattle.shop_base.specs.Plan.{PlannedShop, jobs, machines, steps, machine_of, clean, order, Visits, IsWellShaped}
use Rattle.shop_base.specs.Cell.{Cell, MachineState, absent, unused, start, made, ready, entries, cleaning, IsOn}
use Rattle.shop_base.specs.Report.{CanReport, with_ready, with_clean, after_report}
use Rattle.shop_base.specs.Move.{IsPrefix, CanMove, KeepsPlan, target, after_move}
use Rattle.shop_base.specs.Run.{Event, Reported, Moved, CanHappen, after, AreEvents, after_all}
use Rattle.shop_base.proofs.Visits.{visits_job, visits_machine, visits_or_not, on_or_not}
use Rattle.shop_base.proofs.InShop.{outside_in_shop, ready_in_shop, start_unused}
use Rattle.shop_base.proofs.CellFacts.{target_visited, target_out, visits_target}
use Rattle.shop_base.proofs.Changes.{IsMoved, IsReadied, IsTidied, after_move-moved, with_ready-readied, with_clean-tidied, moves_within}
use Rattle.shop_base.proofs.Keeping.{IsLike, after-sound, after_move-sound, after_report-like, start-sound, start-made}
use Rattle.cell_tables.specs.{Kept.{KeepsSoFar, KeepsJob, KeepsMachine}, Carried.{awaited, IsCarried}}
use Rattle.cell_tables.specs.KeptLaw.{NoneHasLeftUncleaned, ARunOfBothPlansIsKept}
use Rattle.cell_tables.proofs.CarriedCells.{job_kept, carried-sound}
use Rattle.cell_tables.proofs.KeptBefore.{going, event_before, report_departures, one_more, no_more, some_going}
use Rattle.cell_tables.proofs.KeptRuns.{event_kept, start_carried}

module _ (p q : PlannedShop) (c d : Cell) (shaped_p : IsWellShaped p) (shaped : IsWellShaped q) (sound : IsSound p c) (keeps : KeepsSoFar p c q) (carried : IsCarried p c q d) where
  sound_d : IsSound q d
  sound_d = carried-sound p q c d shaped_p shaped sound keeps carried

  same_going : (new : Cell) (m : ℕ) → cleaning new m ≡ cleaning c m → going new m ≡ going c m
  same_going new m same = ap {B = ℕ} (λ x. if is_some x then 1 else 0) same

  -- a report keeps the other plan on that makes no other job of it ready, and ends no cleaning where it has none
  report_keeps : (new : Cell) → IsLike p c new → ((j : ℕ) → jobs q ≤ j → ready new j ≡ ready c j) → ((m : ℕ) → clean q m ≡ 0 → cleaning new m ≡ cleaning c m) → KeepsSoFar p new q
  report_keeps new like waits uncleaned = record {
    jobs_keep = λ j inside. record {
      lacking = λ past. (let none = (keeps.jobs_keep j inside).lacking past in (like.made_same j ∙ none.0, waits j past ∙ none.1));
      entered = λ k some within. (keeps.jobs_keep j inside).entered k (omega (arith, like.made_same j, some)) within;
      gone = λ gone. (keeps.jobs_keep j inside).gone (omega (arith, like.made_same j, gone));
    };
    machines_keep = λ m inside. record {
      in_order = subst (λ xs. IsPrefix xs (order q m)) (sym (like.entries_same m)) (keeps.machines_keep m inside).in_order;
      cleanings = record {
        cleaned = λ timed none. omega (arith, report_departures p c new m like, same_going new m (uncleaned m none), (keeps.machines_keep m inside).cleanings.cleaned timed none);
        uncleaned = λ untimed some. report_departures p c new m like ∙ (keeps.machines_keep m inside).cleanings.uncleaned untimed some;
      };
    };
  }

  readied_keeps : (j t : ℕ) → j < jobs q → IsReadied c j t (with_ready c j t) → IsLike p c (with_ready c j t) → KeepsSoFar p (with_ready c j t) q
  readied_keeps j t inside change like =
      report_keeps (with_ready c j t) like (λ i past. ap (λ (s : JobState). s.ready) (change.others i (λ same. omega (arith, inside, past, same))))
      (λ m none. ap (λ (ms : List MachineState). (get_or ms m unused).cleaning) change.machines_same)

  end_keeps : (r : Report) → CanReport p c r → CanReport q d r → KeepsSoFar p (after_report c r) q
  end_keeps (Arrive j t) can also =
      readied_keeps j t (outside_in_shop q d j sound_d also.going.1.outside)
      (with_ready-readied c j t can.going.1.not_ready (omega (arith, sound.job_count, outside_in_shop p c j sound can.going.1.outside)))
      (after_report-like p c (Arrive j t) sound can)
  end_keeps (Finish j m t) can also =
      readied_keeps j t (visits_job q j also.going.1.0 m also.going.1.1.on.visits)
      (with_ready-readied c j t can.going.1.1.not_ready (omega (arith, sound.job_count, visits_job p j can.going.1.0 m can.going.1.1.on.visits)))
      (after_report-like p c (Finish j m t) sound can)
  end_keeps (Clean m t) can also =
      let change : IsTidied c m t (with_clean c m t) = with_clean-tidied c m can.going.1.0 t can.going.1.1.is_cleaned in
      let timed : 0 < clean q m = sound_d.cleaned_timed m also.going.1.0 also.going.1.1.is_cleaned in
      report_keeps (with_clean c m t) (after_report-like p c (Clean m t) sound can)
      (λ i past. ap (λ (js : List JobState). (get_or js i absent).ready) change.jobs_same)
      (λ n none. change.cleaning_elsewhere n (λ same. omega (arith, timed, none, ap (clean q) same)))

  module _ (j t : ℕ) (can : CanMove p c j t) (also : CanMove q d j t) (keeps_plan : KeepsPlan p c j) (keeps_other : KeepsPlan q d j) (same : target p c j ≡ target q d j)
      (none_left : NoneHasLeftUncleaned p (after_move p c j t) q) where
    abbrev new : Cell
    new = after_move p c j t

    change : IsMoved p c j t new
    change = after_move-moved p c j t shaped_p sound can

    sound_new : IsSound p new
    sound_new = after_move-sound p c j t shaped_p sound can keeps_plan

    here : j < jobs p
    here = ready_in_shop p c j sound can.is_ready

    inside : j < jobs q
    inside = ready_in_shop q d j sound_d also.is_ready

    same_made : made d j ≡ made c j
    same_made = ap (λ (s : JobState). s.made) (job_kept p q c d shaped_p shaped sound keeps carried j inside here)

    -- it enters the machine by the other plan too, or it leaves by both
    enters_there : (m : ℕ) → Visits p j (made c j) m → Visits q j (made d j) m
    enters_there m visits = visits_target q d j m (sym same ∙ target_visited p c j m visits)

    leaves_there : steps p j ≤ made c j → steps q j ≤ made d j
    leaves_there past = elim (cases_lt (made d j) (steps q j)) [
      | inr there ↦ there
      | inl within ↦ (let goes : At (machine_of q j (made d j)) ≡ Out = sym (target_visited q d j (machine_of q j (made d j)) (record { within = within; here = refl })) ∙ sym same ∙ target_out p c j past in absurd (cc))
    ]

    mover_keeps : KeepsJob p new q j
    mover_keeps = record {
      lacking = λ past. absurd (omega (arith, inside, past));
      entered = λ k some within. elim (cases_lt k (made c j)) [
        | inl before ↦ (keeps.jobs_keep j here).entered k before within
        | inr now ↦ (let last : k ≡ made c j = omega (arith, now, some, change.made_mine) in
            let next : Visits p j (made c j) (machine_of p j k) = subst (λ n. Visits p j n (machine_of p j k)) last (record { within = within; here = refl }) in
            subst (λ n. Visits q j n (machine_of p j k)) (same_made ∙ sym last) (enters_there (machine_of p j k) next))
      ];
      gone = λ gone.
          omega (arith, gone, change.made_mine, same_made, leaves_there (omega (arith, gone, change.made_mine)), moves_within p c j t sound can, moves_within q d j t sound_d also);
    }

    other_keeps : (i : ℕ) → i < jobs p → i ≢ j → KeepsJob p new q i
    other_keeps i within apart = record {
      lacking = λ past. (ap (λ (s : JobState). s.made) (change.others i apart) ∙ ((keeps.jobs_keep i within).lacking past).0, ap (λ (s : JobState). s.ready) (change.others i apart) ∙ ((keeps.jobs_keep i within).lacking past).1);
      entered = λ k some. (keeps.jobs_keep i within).entered k (omega (arith, some, ap (λ (s : JobState). s.made) (change.others i apart)));
      gone = λ gone. (keeps.jobs_keep i within).gone (omega (arith, gone, ap (λ (s : JobState). s.made) (change.others i apart)));
    }

    -- the machine on which a job is isn't being cleaned
    none_going : (k m : ℕ) → IsOn p c j k m → (o : Option ℕ) → cleaning c m ≡ o → ◌≡◌ {A = ℕ} (if is_some o then 1 else 0) 0
    none_going k m on None is = refl
    none_going k m on (Some s) is = absurd (sound.cleaned_free m s is j k on)

    machine_keeps : (m : ℕ) → m < machines p → KeepsMachine p new q m
    machine_keeps m within = record {
      in_order = elim (visits_or_not p j (made c j) m) [
        | inl next ↦ (let there : Visits q j (made d j) m = enters_there m next in
            subst (λ xs. IsPrefix xs (order q m)) (sym (change.entered m next ∙ ap (λ xs. xs ++ j ∷ []) (sym (carried.entries_same m (visits_machine q j (made d j) m shaped there))))) (keeps_other m there))
        | inr off ↦ subst (λ xs. IsPrefix xs (order q m)) (sym (change.not_entered m off)) (keeps.machines_keep m within).in_order
      ];
      cleanings = record {
        cleaned = λ timed none. elim (on_or_not p c j m) [
          | inl (k, on) ↦ omega (
            arith,
            one_more p c new j t shaped_p sound sound_new can change k m on,
            some_going p c new j t shaped_p sound sound_new can change (cleaning new m) (change.cleaning_begins k m on timed),
            none_going k m on (cleaning c m) refl,
            (keeps.machines_keep m within).cleanings.cleaned timed none,
          )
          | inr elsewhere ↦ omega (
            arith,
            no_more p c new j t shaped_p sound sound_new can change m elsewhere,
            same_going new m (change.cleaning_elsewhere m elsewhere),
            (keeps.machines_keep m within).cleanings.cleaned timed none,
          )
        ];
        uncleaned = none_left m within;
      };
    }

    move_keeps : KeepsSoFar p new q
    move_keeps = record {
      jobs_keep = λ i within. elim (cases_eq i j) [
        | inl is ↦ subst (KeepsJob p new q) (sym is) mover_keeps
        | inr apart ↦ other_keeps i within apart
      ];
      machines_keep = machine_keeps;
    }

  event_keeps : (e : Event) → CanHappen p c e → CanHappen q d e → NoneHasLeftUncleaned p (after p c e) q → KeepsSoFar p (after p c e) q
  event_keeps (Reported r) can also none_left = end_keeps r can also
  event_keeps (Moved o) (obeys, keeps_plan) (obeys_there, keeps_other) none_left =
      move_keeps o.job o.at obeys.can obeys_there.can keeps_plan keeps_other (ap (λ (x : MoveOrder). x.target) (sym obeys.is_move ∙ obeys_there.is_move)) none_left

-- no fewer have left a machine later
departures_later : (p : PlannedShop) (c : Cell) (es : List Event) (m : ℕ) → IsWellShaped p → IsSound p c → AreEvents p c es → departures p c m ≤ departures p (after_all p c es) m
departures_later p c [] m shaped sound events = le_refl (departures p c m)
departures_later p c (e ∷ es) m shaped sound (can, events) =
    omega (arith, (event_before p c e shaped sound can).departed m, departures_later p (after p c e) es m shaped (after-sound p c e shaped sound can) events)

events_keep : (p q : PlannedShop) (c d : Cell) (es : List Event) → IsWellShaped p → IsWellShaped q → IsSound p c → KeepsSoFar p c q → IsCarried p c q d → AreEvents p c es → AreEvents q d es
    → NoneHasLeftUncleaned p (after_all p c es) q → KeepsSoFar p (after_all p c es) q
events_keep p q c d [] shaped_p shaped sound keeps carried events others none_left = keeps
events_keep p q c d (e ∷ es) shaped_p shaped sound keeps carried (can, events) (also, others) none_left =
    let sound_after : IsSound p (after p c e) = after-sound p c e shaped_p sound can in
    let none_now : NoneHasLeftUncleaned p (after p c e) q =
    (λ m inside untimed some. omega (arith, departures_later p (after p c e) es m shaped_p sound_after events, none_left m inside untimed some)) in
    let keeps_after : KeepsSoFar p (after p c e) q = event_keeps p q c d shaped_p shaped sound keeps carried e can also none_now in
    let carried_after : IsCarried p (after p c e) q (after q d e) = (event_kept p q c d shaped_p shaped sound keeps carried e can keeps_after).1 in
    events_keep p q (after p c e) (after q d e) es shaped_p shaped sound_after keeps_after carried_after events others none_left

-- at the start nothing was done
start_keeps : (p q : PlannedShop) → KeepsSoFar p (start p) q
start_keeps p q = record {
  jobs_keep = λ j inside. record {
    lacking = λ past. (start-made p j inside, ap (λ (s : JobState). s.ready) (get_or-replicate (jobs p) j awaited absent inside));
    entered = λ k some within. absurd (omega (arith, some, start-made p j inside));
    gone = λ gone. absurd (omega (arith, gone, start-made p j inside));
  };
  machines_keep = λ m inside. record {
    in_order = subst (λ xs. IsPrefix xs (order q m)) (sym (empty m)) (order q m, refl);
    cleanings = record {
      cleaned = λ timed none. omega (arith, unleft m);
      uncleaned = λ untimed some. unleft m;
    };
  };
}
  where
    empty : (m : ℕ) → entries (start p) m ≡ []
    empty m = ap (λ (s : MachineState). s.entries) (start_unused p m)

    unleft : (m : ℕ) → departures p (start p) m ≡ 0
    unleft m = omega (arith, ap length (empty m))

pub a_run_of_both_plans_is_kept : ARunOfBothPlansIsKept
a_run_of_both_plans_is_kept p q es shaped_p shaped run other none_left =
    events_keep p q (start p) (start q) es shaped_p shaped (start-sound p shaped_p) (start_keeps p q) (start_carried p q) run other none_left
