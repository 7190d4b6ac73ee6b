-- A cell that is carried over to a plan that the run so far keeps is one as it can be in a run of that plan.
use Rattle.std.proofs.Common.{◌≡◌, ℕ, ◌+◌, ◌-◌, ◌<◌, ◌≤◌, inl, inr, List, [], length, get_or, false, None, Some, refl, sym, ap, ◌∙◌, subst, arith, length-append, lt-ltb, le-ltb, if◌then◌else◌}
use Rattle.std.proofs.{lemmas.Bool.cases_lt, lemmas.List.get_or_past, Math.ListN.get_or-append}
use Rattle.shop_base.specs.{declared.job_state.JobState.JobState, Move.IsPrefix, Sound.IsSound}
use Rattle.shop_base.specs.Plan.{PlannedShop, jobs, machines, steps, machine_of, order, job_at, clean, Visits, Stands, IsWellShaped}
use Rattle.shop_base.specs.Cell.{Cell, MachineState, absent, unused, job_in, machine_in, made, ready, since, entries, cleaning, IsGone, IsFree}
use Rattle.shop_base.proofs.Visits.{visits_job, visits_machine, visits-stands, stands_once, stands_step, stands_alike}
use Rattle.cell_tables.specs.{Kept.KeepsSoFar, Carried.{awaited, IsCarried}}
use Rattle.cell_tables.proofs.KeptSoFar.{kept_begins}

-- an entry of a prefix is one of the whole
prefix_at : (front whole : List ℕ) (a : ℕ) → IsPrefix front whole → a < length front → (a < length whole) × (get_or whole a 0 ≡ get_or front a 0)
prefix_at front whole a (rest, is) within =
    (omega (arith, ap length is, length-append front rest), ap (λ xs. get_or xs a 0) is ∙ get_or-append front rest 0 a within)

module _ (p q : PlannedShop) (c new : Cell) (shaped_p : IsWellShaped p) (shaped : IsWellShaped q) (sound : IsSound p c) (keeps : KeepsSoFar p c q) (carried : IsCarried p c q new) where
  -- a job of both plans is as it was
  pub job_kept : (j : ℕ) → j < jobs q → j < jobs p → job_in new j ≡ job_in c j
  job_kept j inside here = carried.jobs_same j inside ∙ ap (λ b. if b then job_in c j else awaited) (lt-ltb j (jobs p) here)

  -- another is awaited
  job_new : (j : ℕ) → j < jobs q → jobs p ≤ j → job_in new j ≡ awaited
  job_new j inside there = carried.jobs_same j inside ∙ ap (λ b. if b then job_in c j else awaited) (le-ltb j (jobs p) there)

  -- one that is of neither counts as gone
  job_past : (j : ℕ) → jobs q ≤ j → job_in new j ≡ absent
  job_past j past = get_or_past new.jobs j absent (omega (arith, carried.job_count))

  machine_past : (m : ℕ) → machines q ≤ m → machine_in new m ≡ unused
  machine_past m past = get_or_past new.machines m unused (omega (arith, carried.machine_count))

  -- nobody has entered a machine that there wasn't
  unentered : (m : ℕ) → machines p ≤ m → entries c m ≡ []
  unentered m past = ap (λ (s : MachineState). s.entries) (get_or_past c.machines m unused (omega (arith, sound.machine_count)))

  pub made_kept : (j : ℕ) → j < jobs q → j < jobs p → made new j ≡ made c j
  made_kept j inside here = ap (λ (s : JobState). s.made) (job_kept j inside here)

  -- a job that has made a move is of both plans
  moved_here : (j k : ℕ) → j < jobs q → k < made new j → (j < jobs p) × (made new j ≡ made c j)
  moved_here j k inside some = elim (cases_lt j (jobs p)) [
    | inl here ↦ (here, made_kept j inside here)
    | inr there ↦ (let none : made new j ≡ 0 = ap (λ (s : JobState). s.made) (job_new j inside there) in absurd (omega arith))
  ]

  -- a step of the other plan that a job has entered is one of the first plan, on the same machine
  pub entered_there : (j k m : ℕ) → Visits q j k m → k < made new j → (j < jobs p) × (made new j ≡ made c j) × Visits p j k m
  entered_there j k m visits some =
      let (here, same) = moved_here j k (visits_job q j k m visits) some in
      let within : k < steps p j = elim (cases_lt k (steps p j)) [
        | inl less ↦ less
        | inr past ↦ (let count : steps q j ≡ steps p j = (keeps.jobs_keep j here).gone (omega arith) in absurd (omega (arith, count, visits.within)))
      ] in
      let there : Visits q j k (machine_of p j k) = (keeps.jobs_keep j here).entered k (omega arith) within in
      (here, same, record { within = within; here = sym there.here ∙ visits.here })

  -- a place up to which a machine was entered is for the same visit in the other plan
  carried_stands : (m a j k : ℕ) → Stands p m a j k → a < length (entries c m) → j < jobs p → k < made c j → Stands q m a j k
  carried_stands m a j k stands entered here some = stands_alike p q m a j k stands
      (prefix_at (entries c m) (order q m) a in_order_q entered).0
      (λ b before. (prefix_at (entries c m) (order q m) b in_order_q (omega arith)).1 ∙ sym (prefix_at (entries c m) (order p m) b (sound.in_order m) (omega arith)).1)
      (step k (omega arith)).within (λ i before. (step i before).here)
    where
      in_order_q : IsPrefix (entries c m) (order q m)
      in_order_q = (keeps.machines_keep m (visits_machine p j k m shaped_p stands.visits)).in_order

      step : (i : ℕ) → i ≤ k → Visits q j i (machine_of p j i)
      step i before = (keeps.jobs_keep j here).entered i (omega (arith, before, some)) (omega (arith, before, stands.visits.within))

  -- a step of the other plan that was entered stands at the same place of the machine's order
  stands_there : (m a j k : ℕ) → Stands q m a j k → k < made new j → (made new j ≡ made c j) × Stands p m a j k × (a < length (entries c m))
  stands_there m a j k stands some =
      let (here, same, visits) = entered_there j k m stands.visits some in
      let (b, there) = visits-stands p j k m shaped_p visits in
      let entered : b < length (entries c m) = sound.made_entered m b j k there (omega arith) in
      let other : Stands q m b j k = carried_stands m b j k there entered here (omega (arith, same)) in
      let one : b ≡ a = stands_once q m b a j k other stands in
      (same, subst (λ n. Stands p m n j k) one there, omega (arith, one))

  few : (j : ℕ) → j < jobs q → made new j ≤ steps q j + 1
  few j inside = elim (cases_lt j (jobs p)) [
    | inr there ↦ omega (arith, ap (λ (s : JobState). s.made) (job_new j inside there))
    | inl here ↦ elim (cases_lt (steps p j) (made c j)) [
      | inl gone ↦ omega (arith, made_kept j inside here, (keeps.jobs_keep j here).gone gone, sound.few_moves j here)
      | inr still ↦ elim (cases_lt 0 (made c j)) [
        | inr none ↦ omega (arith, made_kept j inside here)
        | inl some ↦ (let last : Visits q j (made c j - 1) (machine_of p j (made c j - 1)) = (keeps.jobs_keep j here).entered (made c j - 1) (omega arith) (omega arith) in
            omega (arith, made_kept j inside here, last.within))
      ]
    ]
  ]

  gone_done : (j : ℕ) → IsGone q new j → ready new j ≡ false
  gone_done j gone = elim (cases_lt j (jobs q)) [
    | inr past ↦ ap (λ (s : JobState). s.ready) (job_past j past)
    | inl inside ↦ (let (here, same) = moved_here j (steps q j) inside gone in
        ap (λ (s : JobState). s.ready) (job_kept j inside here) ∙ sound.gone_not_ready j (elim (cases_lt (steps p j) (made c j)) [
          | inl less ↦ less
          | inr still ↦ (let last : Visits q j (made c j - 1) (machine_of p j (made c j - 1)) = (keeps.jobs_keep j here).entered (made c j - 1) (omega arith) (omega arith) in
              absurd (omega (arith, last.within)))
        ]))
  ]

  begun : (j : ℕ) → since new j ≤ new.last
  begun j = elim (cases_lt j (jobs q)) [
    | inr past ↦ omega (arith, ap (λ (s : JobState). s.since) (job_past j past))
    | inl inside ↦ elim (cases_lt j (jobs p)) [
      | inl here ↦ omega (arith, ap (λ (s : JobState). s.since) (job_kept j inside here), sound.begun j, carried.last_same)
      | inr there ↦ omega (arith, ap (λ (s : JobState). s.since) (job_new j inside there))
    ]
  ]

  in_order : (m : ℕ) → IsPrefix (entries new m) (order q m)
  in_order m = elim (cases_lt m (machines q)) [
    | inr past ↦ subst (λ (s : MachineState). IsPrefix s.entries (order q m)) (sym (machine_past m past)) (order q m, refl)
    | inl inside ↦ subst (λ xs. IsPrefix xs (order q m)) (sym (carried.entries_same m inside)) (kept_begins p c q sound keeps m)
  ]

  -- a job of the order that has entered a machine has made its step there
  entered_made : (m a j k : ℕ) → Stands q m a j k → a < length (entries new m) → k < made new j
  entered_made m a j k stands entered =
      let inside : m < machines q = visits_machine q j k m shaped stands.visits in
      let before : a < length (entries c m) = omega (arith, ap length (carried.entries_same m inside)) in
      let here : m < machines p = elim (cases_lt m (machines p)) [ inl less ↦ less | inr past ↦ absurd (omega (arith, ap length (unentered m past))) ] in
      let (within, at) = prefix_at (entries c m) (order q m) a (keeps.machines_keep m here).in_order before in
      let (within_p, at_p) = prefix_at (entries c m) (order p m) a (sound.in_order m) before in
      let job_same : job_at p m a ≡ j = at_p ∙ sym at ∙ stands.job in
      let (l, first) = (shaped_p.orders m here).on_route a within_p in
      let there : Stands p m a j l = subst (λ i. Stands p m a i l) job_same first in
      let made_there : l < made c j = sound.entered_made m a j l there before in
      let job_here : j < jobs p = visits_job p j l m there.visits in
      let one : k ≡ l = stands_step q m a j k l stands (carried_stands m a j l there before job_here made_there) in
      omega (arith, one, made_kept j (visits_job q j k m stands.visits) job_here)

  made_entered : (m a j k : ℕ) → Stands q m a j k → k < made new j → a < length (entries new m)
  made_entered m a j k stands some =
      omega (arith, (stands_there m a j k stands some).2, ap length (carried.entries_same m (visits_machine q j k m shaped stands.visits)))

  newest : (m a j k : ℕ) → Stands q m a j k → made new j ≡ k + 1 → length (entries new m) ≡ a + 1
  newest m a j k stands is =
      let (same, there, entered) = stands_there m a j k stands (omega arith) in
      omega (arith, ap length (carried.entries_same m (visits_machine q j k m shaped stands.visits)), sound.newest m a j k there (omega arith))

  -- a cleaning that goes on went on before, on a machine with a cleaning time
  still_cleaned : (m s : ℕ) → cleaning new m ≡ Some s → (m < machines q) × (0 < clean q m) × (cleaning c m ≡ Some s)
  still_cleaned m s is = elim (cases_lt m (machines q)) [
    | inr past ↦ absurd (let none : cleaning new m ≡ None = ap (λ (x : MachineState). x.cleaning) (machine_past m past) in cc)
    | inl inside ↦ elim (cases_lt 0 (clean q m)) [
      | inl timed ↦ (inside, timed, sym (carried.cleaning_is m inside ∙ ap (λ b. if b then cleaning c m else None) (lt-ltb 0 (clean q m) timed)) ∙ is)
      | inr untimed ↦ absurd (let none : cleaning new m ≡ None = carried.cleaning_is m inside ∙ ap (λ b. if b then cleaning c m else None) (le-ltb 0 (clean q m) untimed) in cc)
    ]
  ]

  cleaned_free : (m s : ℕ) → cleaning new m ≡ Some s → IsFree q new m
  cleaned_free m s is j k on =
      let (here, same, visits) = entered_there j k m on.visits (omega (arith, on.entered)) in
      sound.cleaned_free m s (still_cleaned m s is).2 j k (record { entered = sym same ∙ on.entered; visits = visits })

  pub carried-sound : IsSound q new
  carried-sound = record {
    job_count = carried.job_count;
    machine_count = carried.machine_count;
    last_in_range = omega (arith, carried.last_same, sound.last_in_range);
    begun = begun;
    few_moves = few;
    gone_not_ready = gone_done;
    in_order = in_order;
    entered_made = entered_made;
    made_entered = made_entered;
    newest = newest;
    cleaned_timed = λ m s is. (still_cleaned m s is).1;
    cleaned_entered = λ m s is. omega (arith, ap length (carried.entries_same m (still_cleaned m s is).0), sound.cleaned_entered m s (still_cleaned m s is).2);
    cleaned_free = cleaned_free;
  }
