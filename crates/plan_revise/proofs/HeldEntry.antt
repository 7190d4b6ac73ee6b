-- The cell in which a job more has entered the machine that it holds.
use Rattle.std.proofs.Common.{◌≡◌, ◌≢◌, ℕ, ◌+◌, ◌-◌, ◌⊎◌, inl, inr, List, [], ◌∷◌, ◌++◌, get_or, Option, None, Some, true, false, nat_lt, refl, sym, ap, ◌∙◌, subst, arith, le_refl}
use Rattle.std.proofs.lemmas.Bool.{cases_lt, cases_Bool, le-ltb, lt-ltb}
use Rattle.std.proofs.lemmas.List.{get_or_past}
use Rattle.shop_base.specs.declared.job_state.JobState.{JobState}
use Rattle.shop_base.specs.declared.report.Report.TheVariants.{Arrive, Clean}
use Rattle.shop_base.specs.declared.move_order.Spot.TheVariants.{Out, At}
use Rattle.shop_base.specs.Plan.{PlannedShop, jobs, machines, clean, Visits, IsWellShaped}
use Rattle.shop_base.specs.Cell.{Cell, MachineState, absent, unused, start, job_in, machine_in, made, entries, cleaning, IsOn}
use Rattle.shop_base.specs.Report.{with_ready, with_clean}
use Rattle.shop_base.specs.Move.{CanLeave, CanEnter}
use Rattle.shop_base.specs.Run.{Event, Reported, Moved, AreEvents, CanHappen, after, after_all, ends_in, IsRun}
use Rattle.shop_base.specs.Sound.{IsSound}
use Rattle.shop_base.proofs.Visits.{leaves_past}
use Rattle.shop_base.proofs.Changes.{IsReadied, IsTidied, IsMoved, after_move-moved, with_ready-readied, with_clean-tidied}
use Rattle.shop_base.proofs.Keeping.{after-sound, run-sound}
use Rattle.shop_base.proofs.ControlledRuns.{after_all_join}
use Rattle.shop_base.proofs.LowerBounds.{events_split}
use Rattle.cell_tables.specs.Carried.{IsCarried, awaited, carried_cleaning}
use Rattle.cell_tables.specs.KeptLaw.{AKeptRunIsOneOfTheOtherPlan}
use Rattle.plan_revise.specs.declared.change.Change.TheVariants.{Hold}
use Rattle.plan_revise.specs.Settings.{setting}
use Rattle.plan_revise.specs.Held.{entry_at_once, IsEntryAtOnce}
use Rattle.plan_revise.specs.Changes.{IsHeld}
use Rattle.plan_revise.specs.RevisedLaw.{IsRevisedRun}
use Rattle.plan_revise.specs.Fits.{IsRevision}
use Rattle.plan_revise.proofs.Holds.{held-jobs, held-visit}
use Rattle.plan_revise.proofs.Outcomes.{run_stays, run_revision, jobs_there, entries_there}

-- cell d is cell c of plan p, but that a job more is at work on a machine since moment t: it is the last that entered the machine, which isn't being cleaned
pub record IsHeldIn (p : PlannedShop) (c : Cell) (machine t : ℕ) (d : Cell) : Type 0 where
  pub others : (j : ℕ) → j ≢ jobs p → job_in d j ≡ job_in c j
  pub holder : job_in d (jobs p) ≡ record { made = 1; ready = false; since = t }
  pub entered : entries d machine ≡ entries c machine ++ jobs p ∷ []
  pub uncleaned : cleaning d machine ≡ None
  pub elsewhere : (m : ℕ) → m ≢ machine → machine_in d m ≡ machine_in c m

state_is : (x : JobState) (t : ℕ) → x.made ≡ 1 → x.ready ≡ false → x.since ≡ t → x ≡ record { made = 1; ready = false; since = t }
state_is x t one idle at = ap (λ n. record { made = n; ready = x.ready; since = x.since }) one ∙ ap (λ b. record { made = 1; ready = b; since = x.since }) idle ∙ ap (λ n. record { made = 1; ready = false; since = n }) at

machine_is : (x y : MachineState) → x.entries ≡ y.entries → x.cleaning ≡ y.cleaning → x ≡ y
machine_is x y one other = ap (λ (e : List ℕ). record { entries = e; cleaning = x.cleaning }) one ∙ ap (λ (k : Option ℕ). record { entries = y.entries; cleaning = k }) other

module _ (kept_law : AKeptRunIsOneOfTheOtherPlan) (p q : PlannedShop) (es : List Event) (t plant machine to : ℕ) (r : IsRevisedRun p es t plant (Hold machine to ∷ []) q) where
  abbrev c : Cell
  c = ends_in p es

  abbrev new : Cell
  new = ends_in q es

  abbrev j : ℕ
  j = jobs p

  pub held_made : IsHeld (setting p (ends_in p es) t plant) p machine to q
  held_made = go r.made
    where
      go : (next : PlannedShop) × IsHeld (setting p (ends_in p es) t plant) p machine to next × (q ≡ next) → IsHeld (setting p (ends_in p es) t plant) p machine to q
      go (next, first, last) = subst (IsHeld (setting p (ends_in p es) t plant) p machine to) (sym last) first

  stays : IsWellShaped q × IsRun q es × IsCarried p c q new
  stays = run_stays kept_law p q es t plant (Hold machine to ∷ []) r

  sound : IsSound p c
  sound = run-sound p es r.shaped r.run

  sound_new : IsSound q new
  sound_new = run-sound q es stays.0 stays.1

  revision : IsRevision (setting p (ends_in p es) t plant) q
  revision = run_revision p q es t plant (Hold machine to ∷ []) r

  count : jobs q ≡ jobs p + 1
  count = ap jobs held_made.is ∙ held-jobs (setting p (ends_in p es) t plant) p machine (to - t)

  first : Visits q j 0 machine
  first = subst (λ (x : PlannedShop). Visits x j 0 machine) (sym held_made.is) (held-visit (setting p (ends_in p es) t plant) p machine (to - t))

  -- ---- before its entry the cell is as it was, and nothing was reported of the job

  jobs_before : (i : ℕ) → i ≢ j → job_in new i ≡ job_in c i
  jobs_before i other = elim (cases_lt i (jobs p)) [
    | inl inside ↦ jobs_there kept_law p q es t plant (Hold machine to ∷ []) r i inside
    | inr past ↦ get_or_past new.jobs i absent (omega (arith, sound_new.job_count, count, other)) ∙ sym (get_or_past c.jobs i absent (omega (arith, sound.job_count)))
  ]

  untouched : job_in new j ≡ awaited
  untouched = stays.2.jobs_same j (omega (arith, count)) ∙ rw (le-ltb j (jobs p) (le_refl j)) refl

  entries_before : (m : ℕ) → entries new m ≡ entries c m
  entries_before m = entries_there kept_law p q es t plant (Hold machine to ∷ []) r m

  cleaning_before : (m : ℕ) → cleaning new m ≡ cleaning c m
  cleaning_before m = elim (cases_lt m (machines q)) [
    | inl inside ↦ stays.2.cleaning_is m inside ∙ go (cases_Bool (nat_lt 0 (clean q m))) (cleaning c m) refl
    | inr past ↦ ap (λ (x : MachineState). x.cleaning) (get_or_past new.machines m unused (omega (arith, sound_new.machine_count)))
        ∙ sym (ap (λ (x : MachineState). x.cleaning) (get_or_past c.machines m unused (omega (arith, sound.machine_count, revision.no_fewer))))
  ]
    where
      never : nat_lt 0 (clean q m) ≡ false → nat_lt 0 (clean q m) ≡ true → ⊥
      never untimed timed = cc

      go : (nat_lt 0 (clean q m) ≡ true) ⊎ (nat_lt 0 (clean q m) ≡ false) → (from : Option ℕ) → cleaning c m ≡ from → carried_cleaning c q m ≡ from
      go (inl timed) from same = rw timed same
      go (inr untimed) None same = rw untimed refl
      go (inr untimed) (Some from) same = absurd (never untimed (lt-ltb 0 (clean q m) (omega (arith, sound.cleaned_timed m from same, revision.kept.cleaned m))))

  -- ---- its entry

  module _ (tidy : Cell) (sound_tidy : IsSound q tidy) (jobs_same : tidy.jobs ≡ new.jobs) (entries_same : (m : ℕ) → entries tidy m ≡ entries new m) (cleaning_same : (m : ℕ) → m ≢ machine → cleaning tidy m ≡ cleaning new m) (arrives : CanHappen q tidy (Reported (Arrive j t)))
      (moves : CanHappen q (with_ready tidy j t) (Moved (record { job = j; source = Out; target = At machine; at = t }))) where
    abbrev arrived : Cell
    arrived = with_ready tidy j t

    abbrev last : Cell
    last = after q arrived (Moved (record { job = j; source = Out; target = At machine; at = t }))

    was : job_in tidy j ≡ awaited
    was = ap (λ (js : List JobState). get_or js j absent) jobs_same ∙ untouched

    readied : IsReadied tidy j t arrived
    readied = with_ready-readied tidy j t (ap (λ (x : JobState). x.ready) was) (omega (arith, sound_tidy.job_count, count))

    outside : made arrived j ≡ 0
    outside = readied.made_same j ∙ ap (λ (x : JobState). x.made) was

    next : Visits q j (made arrived j) machine
    next = subst (λ n. Visits q j n machine) (sym outside) first

    moved : IsMoved q arrived j t last
    moved = after_move-moved q arrived j t stays.0 (after-sound q tidy (Reported (Arrive j t)) stays.0 sound_tidy arrives) moves.0.can

    off : (m k : ℕ) → IsOn q arrived j k m → ⊥
    off m k on = omega (arith, on.entered, outside)

    clean_now : cleaning arrived machine ≡ None
    clean_now = go moves.0.can.way
      where
        go : CanLeave q arrived j ⊎ ((m : ℕ) × CanEnter q arrived j m) → cleaning arrived machine ≡ None
        go (inl leaves) = absurd (omega (arith, leaves_past q arrived j leaves, next.within))
        go (inr (m, enters)) = ap (cleaning arrived) (sym next.here ∙ enters.next.here) ∙ enters.is_clean

    alike : (m : ℕ) → m ≢ machine → machine_in last m ≡ machine_in c m
    alike m other = machine_is (machine_in last m) (machine_in c m)
        (moved.not_entered m (λ visits. other (sym visits.here ∙ next.here)) ∙ ap (λ (ms : List MachineState). (get_or ms m unused).entries) readied.machines_same ∙ entries_same m ∙ entries_before m)
        (moved.cleaning_elsewhere m (off m) ∙ ap (λ (ms : List MachineState). (get_or ms m unused).cleaning) readied.machines_same ∙ cleaning_same m other ∙ cleaning_before m)

    entered_held : IsHeldIn p c machine t last
    entered_held = record {
      others = λ i other. moved.others i other ∙ readied.others i other ∙ ap (λ (js : List JobState). get_or js i absent) jobs_same ∙ jobs_before i other;
      holder = state_is (job_in last j) t (omega (arith, moved.made_mine, outside)) moved.ready_mine moved.since_mine;
      entered = moved.entered machine next ∙ ap (λ (xs : List ℕ). xs ++ j ∷ []) (ap (λ (ms : List MachineState). (get_or ms machine unused).entries) readied.machines_same ∙ entries_same machine ∙ entries_before machine);
      uncleaned = moved.cleaning_elsewhere machine (off machine) ∙ clean_now;
      elsewhere = alike;
    }

  -- whether it is clean, or is reported so
  by_events : (entry : List Event) → IsEntryAtOnce machine j t entry → AreEvents q new entry → IsHeldIn p c machine t (after_all q new entry)
  by_events entry (inl is) events = subst (λ (x : List Event). IsHeldIn p c machine t (after_all q new x)) (sym is) (go (subst (AreEvents q new) is events))
    where
      go : AreEvents q new (entry_at_once machine j t) → IsHeldIn p c machine t (after_all q new (entry_at_once machine j t))
      go (arrives, (moves, end)) = entered_held new sound_new refl (λ m. refl) (λ m other. refl) arrives moves
  by_events entry (inr is) events = subst (λ (x : List Event). IsHeldIn p c machine t (after_all q new x)) (sym is) (go (subst (AreEvents q new) is events))
    where
      go : AreEvents q new (Reported (Clean machine t) ∷ entry_at_once machine j t) → IsHeldIn p c machine t (after_all q new (Reported (Clean machine t) ∷ entry_at_once machine j t))
      go (cleaned, (arrives, (moves, end))) =
          let tidied : IsTidied new machine t (with_clean new machine t) = with_clean-tidied new machine cleaned.going.1.0 t cleaned.going.1.1.is_cleaned in
          entered_held (with_clean new machine t) (after-sound q new (Reported (Clean machine t)) stays.0 sound_new cleaned) tidied.jobs_same tidied.entries_same tidied.cleaning_elsewhere arrives moves

  pub held_in : (entry : List Event) → IsEntryAtOnce machine j t entry → IsRun q (es ++ entry) → IsHeldIn p c machine t (ends_in q (es ++ entry))
  held_in entry is run =
      subst (IsHeldIn p c machine t) (sym (after_all_join q (start q) es entry))
      (by_events entry is (events_split q (start q) es entry run).1)
