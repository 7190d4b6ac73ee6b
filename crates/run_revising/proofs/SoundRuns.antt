-- What holds of a run that is changed, and of the cell at its end.
use Rattle.std.proofs.Common.{◌≡◌, ℕ, ◌+◌, ◌-◌, ◌<◌, ◌≤◌, ◌⊎◌, inl, inr, List, [], ◌∷◌, ◌++◌, length, Option, None, Some, true, false, nat_lt, refl, sym, ap, ◌∙◌, subst, arith, append_assoc}
use Rattle.std.specs.Prelude.{insert}
use Rattle.std.proofs.lemmas.Bool.{cases_lt, cases_Bool, le-ltb, lt-ltb}
use Rattle.std.proofs.lemmas.List.Edits.{insert-append_right}
use Rattle.shop_base.specs.declared.job_state.JobState.{JobState}
use Rattle.shop_base.specs.declared.shop.Step.{Step}
use Rattle.shop_base.specs.Shop.{step_at}
use Rattle.shop_base.specs.Plan.{PlannedShop, jobs, machines, route, steps, order, clean, Visits, IsWellShaped}
use Rattle.shop_base.specs.Cell.{Cell, start, job_in, made, entries, cleaning, IsFree}
use Rattle.shop_base.specs.Report.{IsNextMoment}
use Rattle.shop_base.specs.Move.{IsPrefix}
use Rattle.shop_base.specs.Run.{Event, AreEvents, IsRun, after_all, ends_in}
use Rattle.shop_base.specs.Sound.{IsSound}
use Rattle.shop_base.proofs.Visits.{visits_job}
use Rattle.shop_base.proofs.Keeping.{run-sound}
use Rattle.shop_base.proofs.ControlledRuns.{events_join, after_all_join}
use Rattle.plan_verifier.specs.Accepted.{HasNoCycle}
use Rattle.cell_tables.specs.Carried.{IsCarried, awaited, carried_job, carried_cleaning}
use Rattle.cell_tables.proofs.KeptRuns.{a_kept_run_is_one_of_the_other_plan}
use Rattle.plan_revise.specs.declared.change.Change.{Change}
use Rattle.plan_revise.specs.declared.change.Change.TheVariants.{Until, Add, Scrap, Down, Route, Release, Budget, Hold}
use Rattle.plan_revise.specs.Promises.{no_promise}
use Rattle.plan_revise.specs.Placed.{added}
use Rattle.plan_revise.specs.Settings.{RevisionSetting}
use Rattle.plan_revise.specs.Aside.{IsPlantOf}
use Rattle.plan_revise.specs.Changes.{IsHeld, IsChangedTo}
use Rattle.plan_revise.specs.Revised.{AreMade}
use Rattle.plan_revise.specs.RevisedLaw.{IsRevisedRun}
use Rattle.plan_revise.specs.Fits.{IsRevision, IsSetting}
use Rattle.plan_revise.proofs.Inserted.{visit-order}
use Rattle.plan_revise.proofs.Outcomes.{run_setting, run_revision, run_stays, no_cycle}
use Rattle.plan_revise.specs.Held.{entry_at_once}
use Rattle.run_revising.specs.Holding.{end_of_cleaning, hold_events}
use Rattle.run_revising.specs.RunChanges.{ChangingRun, unchanged, judged_by, behind, AreRunChanges}
use Rattle.run_revising.proofs.HeldRuns.{IsAboutToHold, holds, held_last, held_others}
use Rattle.run_revising.proofs.PlantKept.{held_route, plant_stays}
use Rattle.run_revising.proofs.RunsChanged.{made_join, held_jobs}

-- its events are a run of the plan that is given, which is well shaped, the present moment isn't before its last one, and some changes made what is reached
pub record IsSoundRun (plant t : ℕ) (r : ChangingRun) : Type 0 where
  pub shaped : IsWellShaped r.given
  pub run : IsRun r.given r.events
  pub moment : IsNextMoment (ends_in r.given r.events) t
  pub is_plant : IsPlantOf r.given plant
  pub so_far : List Change
  pub made : AreMade (judged_by plant t r) r.given so_far r.reached

module _ (plant t : ℕ) where
  pub revised_run : (r : ChangingRun) (sound : IsSoundRun plant t r) → IsRevisedRun r.given r.events t plant sound.so_far r.reached
  revised_run r sound = record { shaped = sound.shaped; run = sound.run; present = sound.moment.in_order; is_plant = sound.is_plant; made = sound.made }

  -- ---- a job more that holds a machine

  module _ (r : ChangingRun) (sound : IsSoundRun plant t r) (machine to : ℕ) (q : PlannedShop) (one : IsHeld (judged_by plant t r) r.reached machine to q) where
    abbrev c : Cell
    c = ends_in r.given r.events

    abbrev new : Cell
    new = ends_in q r.events

    abbrev s : RevisionSetting
    s = judged_by plant t r

    more : IsRevisedRun r.given r.events t plant (sound.so_far ++ Hold machine to ∷ []) q
    more = record {
      shaped = sound.shaped;
      run = sound.run;
      present = sound.moment.in_order;
      is_plant = sound.is_plant;
      made = made_join s r.given sound.so_far (Hold machine to ∷ []) r.reached q sound.made (q, one, refl);
    }

    stays : IsWellShaped q × IsRun q r.events × IsCarried r.given c q new
    stays = run_stays a_kept_run_is_one_of_the_other_plan r.given q r.events t plant (sound.so_far ++ Hold machine to ∷ []) more

    carried : IsCarried r.given c q new
    carried = stays.2

    is_sound : IsSound r.given c
    is_sound = run-sound r.given r.events sound.shaped sound.run

    setting_is : IsSetting s
    setting_is = run_setting r.given r.reached r.events t plant sound.so_far (revised_run r sound)

    before : IsRevision s r.reached
    before = run_revision r.given r.reached r.events t plant sound.so_far (revised_run r sound)

    then_revision : IsRevision s q
    then_revision = run_revision r.given q r.events t plant (sound.so_far ++ Hold machine to ∷ []) more

    count : jobs q ≡ jobs r.reached + 1
    count = ap jobs one.is ∙ held_jobs s r.reached machine (to - t)

    at_least : (p : PlannedShop) → IsRevision s p → machine < machines p
    at_least p revision = elim revision.plant [ inl whole ↦ omega (arith, whole, one.in_plant) | inr behind ↦ omega (arith, behind, one.in_plant) ]

    in_given : machine < machines r.given
    in_given = elim sound.is_plant [ inl whole ↦ omega (arith, whole, one.in_plant) | inr aside ↦ omega (arith, aside.last, one.in_plant) ]

    -- the machine is being cleaned as before
    cleaned_same : cleaning new machine ≡ cleaning c machine
    cleaned_same = carried.cleaning_is machine (at_least q then_revision) ∙ go (cases_Bool (nat_lt 0 (clean q machine))) (cleaning c machine) refl
      where
        never : nat_lt 0 (clean q machine) ≡ false → nat_lt 0 (clean q machine) ≡ true → ⊥
        never untimed timed = cc

        go : (nat_lt 0 (clean q machine) ≡ true) ⊎ (nat_lt 0 (clean q machine) ≡ false) → (since : Option ℕ) → cleaning c machine ≡ since → carried_cleaning c q machine ≡ since
        go (inl timed) since same = rw timed same
        go (inr untimed) None same = rw untimed refl
        go (inr untimed) (Some from) same =
            absurd (never untimed (lt-ltb 0 (clean q machine) (omega (arith, is_sound.cleaned_timed machine from same, then_revision.kept.cleaned machine))))

    -- nothing was reported of the job
    untouched : job_in new (jobs r.reached) ≡ awaited
    untouched = carried.jobs_same (jobs r.reached) (omega (arith, count)) ∙ rw (le-ltb (jobs r.reached) (jobs r.given) before.kept.jobs_there) refl

    -- its first step is on the machine
    first : Visits q (jobs r.reached) 0 machine
    first =
        let way = ap (λ (q : PlannedShop). route q (jobs r.reached)) one.is ∙ held_route s setting_is r.reached machine (to - t) in
        record { within = omega (arith, ap length way); here = ap (λ (r : List Step). (step_at r 0).machine) way }

    -- no job is on it
    made_there : (i : ℕ) → i < jobs q → made new i ≡ (carried_job r.given c i).made
    made_there i inside = ap (λ (x : JobState). x.made) (carried.jobs_same i inside)

    not_given : (i : ℕ) → jobs r.given ≤ i → carried_job r.given c i ≡ awaited
    not_given i past = rw (le-ltb i (jobs r.given) past) refl

    was_given : (i : ℕ) → i < jobs r.given → carried_job r.given c i ≡ job_in c i
    was_given i inside = rw (lt-ltb i (jobs r.given) inside) refl

    free : IsFree q new machine
    free i k on = elim (cases_lt i (jobs r.given)) [
      | inr past ↦ absurd (omega (arith, on.entered, made_there i there, ap (λ (x : JobState). x.made) (not_given i past)))
      | inl inside ↦ off inside (sym (ap (λ (x : JobState). x.made) (was_given i inside)) ∙ sym (made_there i there) ∙ on.entered)
    ]
      where
        there : i < jobs q
        there = visits_job q i k machine on.visits

        off : i < jobs r.given → made c i ≡ k + 1 → ⊥
        off inside moved = elim (cases_lt k (steps r.given i)) [
          | inl within ↦ one.free i k (record {
            entered = moved;
            visits = record { within = within; here = sym (then_revision.kept.entered i k (omega (arith, moved)) (record { within = within; here = refl })).here ∙ on.visits.here };
          })
          | inr gone ↦ absurd (omega (arith, then_revision.kept.left i inside (omega (arith, moved, gone)), on.visits.within, gone))
        ]

    -- and the job is the next in its order
    in_order : order q machine ≡ insert (order r.reached machine) (length (entries c machine)) (jobs r.reached)
    in_order = ap (λ (q : PlannedShop). order q machine) one.is
        ∙ visit-order (added r.reached [] t no_promise) (jobs r.reached) (record { machine = machine; nominal = to - t }) (length (entries c machine)) (omega (arith, at_least r.reached before, before.fit.counts.orders))

    next_there : IsPrefix (entries new machine ++ jobs r.reached ∷ []) (order q machine)
    next_there =
        let prefix = before.kept.begun machine in_given in
        let none : length (entries c machine) - length (entries c machine) ≡ 0 = omega arith in (
          prefix.0,
          in_order ∙ ap (λ (xs : List ℕ). insert xs (length (entries c machine)) (jobs r.reached)) prefix.1
              ∙ insert-append_right (entries c machine) prefix.0 (length (entries c machine)) (length (entries c machine)) (jobs r.reached) refl (omega arith)
              ∙ ap (λ (k : ℕ). entries c machine ++ insert prefix.0 k (jobs r.reached)) none
              ∙ sym (append_assoc (entries c machine) (jobs r.reached ∷ []) prefix.0)
              ∙ ap (λ (xs : List ℕ). (xs ++ jobs r.reached ∷ []) ++ prefix.0) (sym (carried.entries_same machine (at_least q then_revision))),
        )

    about : IsAboutToHold q new machine (jobs r.reached) t
    about = record {
      inside = omega (arith, carried.job_count, count);
      untouched = untouched;
      first = first;
      free = free;
      next = next_there;
      moment = record { in_order = omega (arith, carried.last_same, sound.moment.in_order); in_range = sound.moment.in_range };
    }

    same_events : hold_events c machine (jobs r.reached) t ≡ hold_events new machine (jobs r.reached) t
    same_events = ap (λ (since : Option ℕ). end_of_cleaning since machine t ++ entry_at_once machine (jobs r.reached) t) (sym cleaned_same)

    goes_on : AreEvents q new (hold_events c machine (jobs r.reached) t)
    goes_on = subst (AreEvents q new) (sym same_events) (holds q machine (jobs r.reached) t new about)

    at_last : (ends_in q (r.events ++ hold_events c machine (jobs r.reached) t)).last ≡ t
    at_last =
        ap (λ (x : Cell). x.last) (after_all_join q (start q) r.events (hold_events c machine (jobs r.reached) t))
        ∙ ap (λ (es : List Event). (after_all q new es).last) same_events ∙ held_last q machine (jobs r.reached) t new

    pub held_run : IsSoundRun plant t (unchanged q (r.events ++ hold_events c machine (jobs r.reached) t))
    held_run = record {
      shaped = stays.0;
      run = events_join q (start q) r.events (hold_events c machine (jobs r.reached) t) stays.1 goes_on;
      moment = record { in_order = omega (arith, at_last); in_range = sound.moment.in_range };
      is_plant = plant_stays s setting_is (sound.so_far ++ Hold machine to ∷ []) q more.made;
      so_far = [];
      made = refl;
    }

    pub held_count : jobs r.given ≤ jobs q
    held_count = then_revision.kept.jobs_there

    -- each job that was there is where it was
    pub held_jobs_stay : (i : ℕ) → i < jobs r.given → job_in (ends_in q (r.events ++ hold_events c machine (jobs r.reached) t)) i ≡ job_in c i
    held_jobs_stay i inside =
        ap (λ (x : Cell). job_in x i) (after_all_join q (start q) r.events (hold_events c machine (jobs r.reached) t))
        ∙ ap (λ (es : List Event). job_in (after_all q new es) i) same_events
        ∙ held_others q machine (jobs r.reached) t new stays.0 (run-sound q r.events stays.0 stays.1) about i (λ same. omega (arith, same, inside, before.kept.jobs_there))
        ∙ carried.jobs_same i (omega (arith, inside, then_revision.kept.jobs_there)) ∙ was_given i inside

    pub held_no_cycle : HasNoCycle r.given → HasNoCycle q
    held_no_cycle acyclic = no_cycle r.given q r.events t plant (sound.so_far ++ Hold machine to ∷ []) more acyclic

  -- ---- any changes

  plan_run : (r : ChangingRun) (change : Change) (next : PlannedShop) → IsSoundRun plant t r → IsChangedTo (judged_by plant t r) r.reached change next → IsSoundRun plant t (record r { reached = next })
  plan_run r change next sound one = record {
    shaped = sound.shaped;
    run = sound.run;
    moment = sound.moment;
    is_plant = sound.is_plant;
    so_far = sound.so_far ++ change ∷ [];
    made = made_join (judged_by plant t r) r.given sound.so_far (change ∷ []) r.reached next sound.made (next, one, refl);
  }

  pub one_more : (r : ChangingRun) (change : Change) (next : PlannedShop) → IsSoundRun plant t r → IsChangedTo (judged_by plant t r) r.reached change next → IsSoundRun plant t (behind plant t r change next)
  one_more r (Until machine to) next sound one = plan_run r (Until machine to) next sound one
  one_more r (Add words release budget) next sound one = plan_run r (Add words release budget) next sound one
  one_more r (Scrap j) next sound one = plan_run r (Scrap j) next sound one
  one_more r (Down machine) next sound one = plan_run r (Down machine) next sound one
  one_more r (Route j words) next sound one = plan_run r (Route j words) next sound one
  one_more r (Release j moment) next sound one = plan_run r (Release j moment) next sound one
  one_more r (Budget j moment) next sound one = plan_run r (Budget j moment) next sound one
  one_more r (Hold machine to) next sound one = held_run r sound machine to next one

  one_no_cycle : (r : ChangingRun) (change : Change) (next : PlannedShop) → IsSoundRun plant t r → IsChangedTo (judged_by plant t r) r.reached change next → HasNoCycle r.given → HasNoCycle (behind plant t r change next).given
  one_no_cycle r (Until machine to) next sound one acyclic = acyclic
  one_no_cycle r (Add words release budget) next sound one acyclic = acyclic
  one_no_cycle r (Scrap j) next sound one acyclic = acyclic
  one_no_cycle r (Down machine) next sound one acyclic = acyclic
  one_no_cycle r (Route j words) next sound one acyclic = acyclic
  one_no_cycle r (Release j moment) next sound one acyclic = acyclic
  one_no_cycle r (Budget j moment) next sound one acyclic = acyclic
  one_no_cycle r (Hold machine to) next sound one acyclic = held_no_cycle r sound machine to next one acyclic

  pub changes_sound : (r : ChangingRun) (changes : List Change) (last : ChangingRun) → IsSoundRun plant t r → AreRunChanges plant t r changes last → IsSoundRun plant t last
  changes_sound r [] last sound same = subst (IsSoundRun plant t) (sym same) sound
  changes_sound r (change ∷ changes) last sound (next, one, rest) = changes_sound (behind plant t r change next) changes last (one_more r change next sound one) rest

  given_no_cycle : (r : ChangingRun) (changes : List Change) (last : ChangingRun) → IsSoundRun plant t r → AreRunChanges plant t r changes last → HasNoCycle r.given → HasNoCycle last.given
  given_no_cycle r [] last sound same acyclic = subst (λ (x : ChangingRun). HasNoCycle x.given) (sym same) acyclic
  given_no_cycle r (change ∷ changes) last sound (next, one, rest) acyclic =
      given_no_cycle (behind plant t r change next) changes last (one_more r change next sound one) rest (one_no_cycle r change next sound one acyclic)

  pub changes_no_cycle : (r : ChangingRun) (changes : List Change) (last : ChangingRun) → IsSoundRun plant t r → AreRunChanges plant t r changes last → HasNoCycle r.given → HasNoCycle last.reached
  changes_no_cycle r changes last sound all acyclic =
      let end = changes_sound r changes last sound all in
      no_cycle last.given last.reached last.events t plant end.so_far (revised_run last end) (given_no_cycle r changes last sound all acyclic)

  -- each job that was there is where it was, at the end of the longer run
  abbrev JobsStay : ChangingRun → ChangingRun → Type 0
  JobsStay r last = (jobs r.given ≤ jobs last.given) × ((i : ℕ) → i < jobs r.given → job_in (ends_in last.given last.events) i ≡ job_in (ends_in r.given r.events) i)

  one_jobs : (r : ChangingRun) (change : Change) (next : PlannedShop) → IsSoundRun plant t r → IsChangedTo (judged_by plant t r) r.reached change next → JobsStay r (behind plant t r change next)
  one_jobs r (Until machine to) next sound one = (omega arith, λ i inside. refl)
  one_jobs r (Add words release budget) next sound one = (omega arith, λ i inside. refl)
  one_jobs r (Scrap j) next sound one = (omega arith, λ i inside. refl)
  one_jobs r (Down machine) next sound one = (omega arith, λ i inside. refl)
  one_jobs r (Route j words) next sound one = (omega arith, λ i inside. refl)
  one_jobs r (Release j moment) next sound one = (omega arith, λ i inside. refl)
  one_jobs r (Budget j moment) next sound one = (omega arith, λ i inside. refl)
  one_jobs r (Hold machine to) next sound one = (held_count r sound machine to next one, held_jobs_stay r sound machine to next one)

  given_jobs : (r : ChangingRun) (changes : List Change) (last : ChangingRun) → IsSoundRun plant t r → AreRunChanges plant t r changes last → JobsStay r last
  given_jobs r [] last sound same = subst (JobsStay r) (sym same) (omega arith, λ i inside. refl)
  given_jobs r (change ∷ changes) last sound (next, one, rest) =
      let first = one_jobs r change next sound one in
      let further = given_jobs (behind plant t r change next) changes last (one_more r change next sound one) rest in
      (omega (arith, first.0, further.0), λ i inside. further.1 i (omega (arith, inside, first.0)) ∙ first.1 i inside)

  pub changes_jobs : (r : ChangingRun) (changes : List Change) (last : ChangingRun) → IsSoundRun plant t r → AreRunChanges plant t r changes last → (i : ℕ) → i < jobs r.given → job_in (ends_in last.reached last.events) i ≡ job_in (ends_in r.given r.events) i
  changes_jobs r changes last sound all i inside =
      let far = given_jobs r changes last sound all in
      let end = changes_sound r changes last sound all in
      let stays = run_stays a_kept_run_is_one_of_the_other_plan last.given last.reached last.events t plant end.so_far (revised_run last end) in
      let revision = run_revision last.given last.reached last.events t plant end.so_far (revised_run last end) in
      let there : i < jobs last.given = omega (arith, inside, far.0) in
      stays.2.jobs_same i (omega (arith, there, revision.kept.jobs_there)) ∙ rw (lt-ltb i (jobs last.given) there) refl ∙ far.1 i inside

  -- the run is one of the plan that is reached, too
  pub reached_run : (r : ChangingRun) → IsSoundRun plant t r → IsWellShaped r.reached × IsRun r.reached r.events × (IsNextMoment (ends_in r.reached r.events) t × IsPlantOf r.reached plant)
  reached_run r sound =
      let stays = run_stays a_kept_run_is_one_of_the_other_plan r.given r.reached r.events t plant sound.so_far (revised_run r sound) in (
        stays.0,
        stays.1,
        (
          record { in_order = omega (arith, stays.2.last_same, sound.moment.in_order); in_range = sound.moment.in_range },
          plant_stays (judged_by plant t r) (run_setting r.given r.reached r.events t plant sound.so_far (revised_run r sound)) sound.so_far r.reached sound.made,
        ),
      )

-- a run of which nothing is changed yet
pub first_run : (plant t : ℕ) (p : PlannedShop) (es : List Event) → IsWellShaped p → IsRun p es → IsNextMoment (ends_in p es) t → IsPlantOf p plant → IsSoundRun plant t (unchanged p es)
first_run plant t p es shaped run moment is_plant = record { shaped = shaped; run = run; moment = moment; is_plant = is_plant; so_far = []; made = refl }
