-- What holds in every run: `IsSound` at the start, after a report, after a move, and so at the end of every run.
use Rattle.std.proofs.Common.{◌≡◌, ◌≢◌, ℕ, ◌+◌, ◌<◌, ◌≤◌, List, [], ◌∷◌, ◌++◌, length, get_or, Some, None, true, false, refl, ap, sym, ◌∙◌, subst, arith, ◌⊎◌, inl, inr, ⊎_elim, length-append, append_assoc, eq-zero-or-pos, lt_of_not-le}
use Rattle.std.proofs.Math.Seq.{get_or-append_seam}
use Rattle.std.proofs.lemmas.Bool.{cases_eq, cases_lt, cases_order}
use Rattle.std.proofs.lemmas.List.{get_or_past, get_or-replicate, length-replicate}
use Rattle.shop_base.specs.declared.node.Node.{Node}
use Rattle.shop_base.specs.declared.limits.TheConstants.{MAX_MOMENT}
use Rattle.shop_base.specs.Plan.{PlannedShop, jobs, machines, steps, order, job_at, clean, Visits, Stands, IsWellShaped}
use Rattle.shop_base.specs.Cell.{Cell, MachineState, absent, unused, job_in, machine_in, made, ready, since, entries, cleaning, start, IsOn, IsGone, IsFree}
use Rattle.shop_base.specs.declared.job_state.JobState.{JobState}
use Rattle.shop_base.specs.declared.report.Report.{Report}
use Rattle.shop_base.specs.Activity.{Activity, Arrival, Operation, Cleaning, GoesOn}
use Rattle.shop_base.specs.Report.{ended, at, IsNextMoment, CanReport, with_ready, with_clean, after_end, after_report}
use Rattle.shop_base.specs.Move.{CanLeave, CanEnter, CanMove, KeepsPlan, IsPrefix, after_move}
use Rattle.shop_base.specs.Run.{Event, Reported, Moved, CanHappen, AreEvents, after, after_all, IsRun, ends_in}
use Rattle.shop_base.specs.Graph.{Arc, job_arc, blocking_arc, node}
use Rattle.shop_base.specs.Sound.{IsSound}
use Rattle.shop_base.proofs.Visits.{visits_job, visits_apart, stands_step, stands_in_turn, visits-order, visits-stands, stands_once, visits_or_not, on_or_not, leaves_past}
use Rattle.shop_base.proofs.Changes.{IsMoved, IsReadied, IsTidied, after_move-moved, with_ready-readied, with_clean-tidied, moves_within}

start-job : (p : PlannedShop) (j : ℕ) → j < jobs p → job_in (start p) j ≡ record { made = 0; ready = false; since = 0 }
start-job p j inside = get_or-replicate (jobs p) j (record { made = 0; ready = false; since = 0 }) absent inside

-- at the start no job has made a move
pub start-made : (p : PlannedShop) (j : ℕ) → j < jobs p → made (start p) j ≡ 0
start-made p j inside = ap (λ (x : JobState). x.made) (start-job p j inside)

start-ready : (p : PlannedShop) (j : ℕ) → ready (start p) j ≡ false
start-ready p j = go (cases_lt j (jobs p))
  where
    go : (j < jobs p) ⊎ (jobs p ≤ j) → ready (start p) j ≡ false
    go (inl inside) = ap (λ (x : JobState). x.ready) (start-job p j inside)
    go (inr past) = ap (λ (x : JobState). x.ready) (get_or_past (start p).jobs j absent (omega (arith, length-replicate {A = JobState} (jobs p) (record { made = 0; ready = false; since = 0 }))))

start-since : (p : PlannedShop) (j : ℕ) → since (start p) j ≡ 0
start-since p j = go (cases_lt j (jobs p))
  where
    go : (j < jobs p) ⊎ (jobs p ≤ j) → since (start p) j ≡ 0
    go (inl inside) = ap (λ (x : JobState). x.since) (start-job p j inside)
    go (inr past) = ap (λ (x : JobState). x.since) (get_or_past (start p).jobs j absent (omega (arith, length-replicate {A = JobState} (jobs p) (record { made = 0; ready = false; since = 0 }))))

start-machine : (p : PlannedShop) (m : ℕ) → machine_in (start p) m ≡ unused
start-machine p m = go (cases_lt m (machines p))
  where
    go : (m < machines p) ⊎ (machines p ≤ m) → machine_in (start p) m ≡ unused
    go (inl inside) = get_or-replicate (machines p) m unused unused inside
    go (inr past) = get_or_past (start p).machines m unused (omega (arith, length-replicate (machines p) unused))

pub start-sound : (p : PlannedShop) → IsWellShaped p → IsSound p (start p)
start-sound p shaped = record {
  job_count = length-replicate (jobs p) _;
  machine_count = length-replicate (machines p) unused;
  last_in_range = omega arith;
  begun = λ j. omega (arith, start-since p j);
  few_moves = λ j inside. omega (arith, start-made p j inside);
  gone_not_ready = λ j gone. start-ready p j;
  in_order = λ m. subst (λ (es : List ℕ). IsPrefix es (order p m)) (sym (empty m)) (order p m, refl);
  entered_made = λ m a j k stands entered. absurd (omega (arith, ap length (empty m)));
  made_entered = λ m a j k stands is_made. absurd (omega (arith, start-made p j (visits_job p j k m stands.visits)));
  newest = λ m a j k stands is. absurd (omega (arith, start-made p j (visits_job p j k m stands.visits)));
  cleaned_timed = λ m s cleaned. absurd (idle m s cleaned);
  cleaned_entered = λ m s cleaned. absurd (idle m s cleaned);
  cleaned_free = λ m s cleaned. absurd (idle m s cleaned);
}
  where
    empty : (m : ℕ) → entries (start p) m ≡ []
    empty m = ap (λ (x : MachineState). x.entries) (start-machine p m)

    idle : (m s : ℕ) → cleaning (start p) m ≡ Some s → ⊥
    idle m s cleaned = let is = ap (λ (x : MachineState). x.cleaning) (start-machine p m) in cc

-- new has c's moves and entries, each made since the same moment, and no job waits and no machine is being cleaned that didn't and wasn't before
pub record IsLike (p : PlannedShop) (c new : Cell) : Type 0 where
  pub job_count : length new.jobs ≡ length c.jobs
  pub machine_count : length new.machines ≡ length c.machines
  pub last_in_range : new.last ≤ MAX_MOMENT
  pub begun : (j : ℕ) → since new j ≤ new.last
  pub made_same : (j : ℕ) → made new j ≡ made c j
  pub since_same : (j : ℕ) → since new j ≡ since c j
  pub not_ready_before : (j : ℕ) → ready new j ≡ false → ready c j ≡ false
  pub gone_not_ready : (j : ℕ) → IsGone p c j → ready new j ≡ false
  pub entries_same : (m : ℕ) → entries new m ≡ entries c m
  pub cleaned_before : (m s : ℕ) → cleaning new m ≡ Some s → cleaning c m ≡ Some s

like-sound : (p : PlannedShop) (c new : Cell) → IsSound p c → IsLike p c new → IsSound p new
like-sound p c new sound alike = record {
  job_count = alike.job_count ∙ sound.job_count;
  machine_count = alike.machine_count ∙ sound.machine_count;
  last_in_range = alike.last_in_range;
  begun = alike.begun;
  few_moves = λ j inside. omega (arith, alike.made_same j, sound.few_moves j inside);
  gone_not_ready = λ j gone. alike.gone_not_ready j (omega (arith, alike.made_same j));
  in_order = λ m. subst (λ (es : List ℕ). IsPrefix es (order p m)) (sym (alike.entries_same m)) (sound.in_order m);
  entered_made = λ m a j k stands entered. omega (arith, alike.made_same j, sound.entered_made m a j k stands (omega (arith, ap length (alike.entries_same m))));
  made_entered = λ m a j k stands is_made. omega (arith, ap length (alike.entries_same m), sound.made_entered m a j k stands (omega (arith, alike.made_same j)));
  newest = λ m a j k stands is. ap length (alike.entries_same m) ∙ sound.newest m a j k stands (sym (alike.made_same j) ∙ is);
  cleaned_timed = λ m s cleaned. sound.cleaned_timed m s (alike.cleaned_before m s cleaned);
  cleaned_entered = λ m s cleaned. omega (arith, ap length (alike.entries_same m), sound.cleaned_entered m s (alike.cleaned_before m s cleaned));
  cleaned_free = λ m s cleaned j k on.
      sound.cleaned_free m s (alike.cleaned_before m s cleaned) j k (record { entered = sym (alike.made_same j) ∙ on.entered; visits = on.visits });
}

readied-like : (p : PlannedShop) (c new : Cell) (j t : ℕ) → IsSound p c → IsNextMoment c t → (IsGone p c j → ⊥) → IsReadied c j t new → IsLike p c new
readied-like p c new j t sound moment present readied = record {
  job_count = readied.job_count;
  machine_count = ap length readied.machines_same;
  last_in_range = omega (arith, readied.moment, moment.in_range);
  begun = λ i. omega (arith, readied.moment, moment.in_order, readied.since_same i, sound.begun i);
  made_same = readied.made_same;
  since_same = readied.since_same;
  not_ready_before = λ i idle. elim (cases_eq i j) [
    | inl same ↦ (let now : ready new i ≡ true = rw same readied.ready_mine in absurd (cc))
    | inr other ↦ sym (ap (λ (x : JobState). x.ready) (readied.others i other)) ∙ idle
  ];
  gone_not_ready = gone_not_ready;
  entries_same = λ m. ap (λ (ms : List MachineState). (get_or ms m unused).entries) readied.machines_same;
  cleaned_before = λ m s cleaned. sym (ap (λ (ms : List MachineState). (get_or ms m unused).cleaning) readied.machines_same) ∙ cleaned;
}
  where
    gone_not_ready : (i : ℕ) → IsGone p c i → ready new i ≡ false
    gone_not_ready i gone = go (cases_eq i j)
      where
        go : (i ≡ j) ⊎ (i ≡ j → ⊥) → ready new i ≡ false
        go (inl same) = absurd (present (subst (λ (x : ℕ). IsGone p c x) same gone))
        go (inr other) = ap (λ (x : JobState). x.ready) (readied.others i other) ∙ sound.gone_not_ready i gone

tidied-like : (p : PlannedShop) (c new : Cell) (m t : ℕ) → IsSound p c → IsNextMoment c t → IsTidied c m t new → IsLike p c new
tidied-like p c new m t sound moment tidied = record {
  job_count = ap length tidied.jobs_same;
  machine_count = tidied.machine_count;
  last_in_range = omega (arith, tidied.moment, moment.in_range);
  begun = λ j. omega (arith, tidied.moment, moment.in_order, ap (λ (js : List JobState). (get_or js j absent).since) tidied.jobs_same, sound.begun j);
  made_same = λ j. ap (λ (js : List JobState). (get_or js j absent).made) tidied.jobs_same;
  since_same = λ j. ap (λ (js : List JobState). (get_or js j absent).since) tidied.jobs_same;
  not_ready_before = λ j idle. sym (ap (λ (js : List JobState). (get_or js j absent).ready) tidied.jobs_same) ∙ idle;
  gone_not_ready = λ j gone. ap (λ (js : List JobState). (get_or js j absent).ready) tidied.jobs_same ∙ sound.gone_not_ready j gone;
  entries_same = tidied.entries_same;
  cleaned_before = cleaned_before;
}
  where
    cleaned_before : (n s : ℕ) → cleaning new n ≡ Some s → cleaning c n ≡ Some s
    cleaned_before n s cleaned = go (cases_eq n m)
      where
        go : (n ≡ m) ⊎ (n ≡ m → ⊥) → cleaning c n ≡ Some s
        go (inl same) = let is = tidied.cleaning_mine in absurd (cc)
        go (inr other) = sym (tidied.cleaning_elsewhere n other) ∙ cleaned

-- only a job of the list is outside
outside-inside : (c : Cell) (j : ℕ) → made c j ≡ 0 → j < length c.jobs
outside-inside c j outside = lt_of_not-le λ past. absurd (omega (arith, ap (λ (x : JobState). x.made) (get_or_past c.jobs j absent past)))

after_end-like : (p : PlannedShop) (c : Cell) (a : Activity) (due t : ℕ) → IsSound p c → GoesOn p c a due → IsNextMoment c t → IsLike p c (after_end c a t)
after_end-like p c (Arrival j) due t sound going moment =
    readied-like p c (with_ready c j t) j t sound moment (λ gone. omega (arith, going.outside))
    (with_ready-readied c j t going.not_ready (outside-inside c j going.outside))
after_end-like p c (Operation j m) due t sound (k, going) moment =
    readied-like p c (with_ready c j t) j t sound moment (λ gone. omega (arith, going.on.entered, going.on.visits.within))
    (with_ready-readied c j t going.not_ready (omega (arith, sound.job_count, visits_job p j k m going.on.visits)))
after_end-like p c (Cleaning m) due t sound (from, going) moment =
    tidied-like p c (with_clean c m t) m t sound moment (with_clean-tidied c m from t going.is_cleaned)

-- a report changes no moves and no entries
pub after_report-like : (p : PlannedShop) (c : Cell) (r : Report) → IsSound p c → CanReport p c r → IsLike p c (after_report c r)
after_report-like p c r sound can = after_end-like p c (ended r) can.going.0 (at r) sound can.going.1 can.moment

pub after_report-sound : (p : PlannedShop) (c : Cell) (r : Report) → IsWellShaped p → IsSound p c → CanReport p c r → IsSound p (after_report c r)
after_report-sound p c r shaped sound can = like-sound p c (after_report c r) sound (after_report-like p c r sound can)

-- no two jobs are on one machine
pub alone_on : (p : PlannedShop) (c : Cell) (i k j l m : ℕ) → IsWellShaped p → IsSound p c → IsOn p c i k m → IsOn p c j l m → i ≡ j
alone_on p c i k j l m shaped sound one other = go (visits-stands p i k m shaped one.visits) (visits-stands p j l m shaped other.visits)
  where
    go : (a : ℕ) × Stands p m a i k → (b : ℕ) × Stands p m b j l → i ≡ j
    go (a, first) (b, second) =
        let same : a ≡ b = omega (arith, sound.newest m a i k first one.entered, sound.newest m b j l second other.entered) in
        sym first.job ∙ ap (job_at p m) same ∙ second.job

-- nobody is on the machine that a job can enter
pub target_free : (p : PlannedShop) (c : Cell) (j t m : ℕ) → CanMove p c j t → Visits p j (made c j) m → IsFree p c m × (cleaning c m ≡ None)
target_free p c j t m can visits = go can.way
  where
    go : CanLeave p c j ⊎ ((n : ℕ) × CanEnter p c j n) → IsFree p c m × (cleaning c m ≡ None)
    go (inl leaves) = absurd (omega (arith, visits.within, leaves_past p c j leaves))
    go (inr (n, enters)) =
        let same : n ≡ m = sym enters.next.here ∙ visits.here in
        subst (λ (x : ℕ). IsFree p c x × (cleaning c x ≡ None)) same (enters.free, enters.is_clean)

-- a job that keeps the plan is the next in its target's order
pub target_next : (p : PlannedShop) (c : Cell) (j m : ℕ) → KeepsPlan p c j → Visits p j (made c j) m
    → (length (entries c m) < length (order p m)) × (job_at p m (length (entries c m)) ≡ j)
target_next p c j m keeps visits = go (keeps m visits)
  where
    go : IsPrefix (entries c m ++ j ∷ []) (order p m) → (length (entries c m) < length (order p m)) × (job_at p m (length (entries c m)) ≡ j)
    go (rest, is) =
        let split : order p m ≡ entries c m ++ j ∷ rest = is ∙ append_assoc (entries c m) (j ∷ []) rest in (
          omega (arith, ap length split, length-append (entries c m) (j ∷ rest)),
          ap (λ (js : List ℕ). get_or js (length (entries c m)) 0) split ∙ get_or-append_seam (entries c m) j rest 0,
        )

-- a job that is the next in the order of the machine of its next step stands there for that step
pub next-stands : (p : PlannedShop) (c : Cell) (j m : ℕ) → IsWellShaped p → IsSound p c → Visits p j (made c j) m
    → (length (entries c m) < length (order p m)) × (job_at p m (length (entries c m)) ≡ j) → Stands p m (length (entries c m)) j (made c j)
next-stands p c j m shaped sound visits next = go (cases_order (length (entries c m)) mine.0)
  where
    mine : (a : ℕ) × Stands p m a j (made c j)
    mine = visits-stands p j (made c j) m shaped visits

    there : (l : ℕ) × Stands p m (length (entries c m)) j l
    there =
        let at = (visits-order p j (made c j) m shaped visits).on_route (length (entries c m)) next.0 in
        (at.0, subst (λ (x : ℕ). Stands p m (length (entries c m)) x at.0) next.1 at.1)

    go : (length (entries c m) ≡ mine.0) ⊎ ((length (entries c m) < mine.0) ⊎ (mine.0 < length (entries c m))) → Stands p m (length (entries c m)) j (made c j)
    go (inl same) = subst (λ (a : ℕ). Stands p m a j (made c j)) (sym same) mine.1
    go (inr (inl less)) =
        let sooner : there.0 < made c j = stands_in_turn p m (length (entries c m)) mine.0 j there.0 (made c j) there.1 mine.1 less in
        absurd (omega (arith, sound.made_entered m (length (entries c m)) j there.0 there.1 sooner))
    go (inr (inr more)) = absurd (omega (arith, sound.entered_made m mine.0 j (made c j) mine.1 more))

-- so does a job that keeps the plan
pub target_place : (p : PlannedShop) (c : Cell) (j m : ℕ) → IsWellShaped p → IsSound p c → KeepsPlan p c j → Visits p j (made c j) m
    → Stands p m (length (entries c m)) j (made c j)
target_place p c j m shaped sound keeps visits = next-stands p c j m shaped sound visits (target_next p c j m keeps visits)

module _ (p : PlannedShop) (c : Cell) (j t : ℕ) (new : Cell) (shaped : IsWellShaped p) (sound : IsSound p c) (can : CanMove p c j t) (keeps : KeepsPlan p c j) (moved : IsMoved p c j t new) where
  -- no other job has made a move
  made_other : (i : ℕ) → i ≢ j → made new i ≡ made c i
  made_other i other = ap (λ (x : JobState). x.made) (moved.others i other)

  ready_other : (i : ℕ) → i ≢ j → ready new i ≡ ready c i
  ready_other i other = ap (λ (x : JobState). x.ready) (moved.others i other)

  made_mine : (i : ℕ) → i ≡ j → made new i ≡ made c j + 1
  made_mine i same = ap (made new) same ∙ moved.made_mine

  visits_mine : (i k m : ℕ) → i ≡ j → Visits p i k m → Visits p j k m
  visits_mine i k m same visits = subst (λ (x : ℕ). Visits p x k m) same visits

  -- the length of a list of entries
  entered_length : (m : ℕ) → Visits p j (made c j) m → length (entries new m) ≡ length (entries c m) + 1
  entered_length m visits = omega (arith, ap length (moved.entered m visits), length-append (entries c m) (j ∷ []))

  entries_grow : (m : ℕ) → length (entries c m) ≤ length (entries new m)
  entries_grow m = ⊎_elim (λ visits. omega (arith, entered_length m visits)) (λ off. omega (arith, ap length (moved.not_entered m off))) (visits_or_not p j (made c j) m)

  moved-begun : (i : ℕ) → since new i ≤ new.last
  moved-begun i = go (cases_eq i j)
    where
      go : (i ≡ j) ⊎ (i ≡ j → ⊥) → since new i ≤ new.last
      go (inl same) = omega (arith, ap (since new) same, moved.since_mine, moved.moment)
      go (inr other) = omega (arith, ap (λ (x : JobState). x.since) (moved.others i other), sound.begun i, moved.moment, can.moment.in_order)

  moved-few_moves : (i : ℕ) → i < jobs p → made new i ≤ steps p i + 1
  moved-few_moves i inside = go (cases_eq i j)
    where
      go : (i ≡ j) ⊎ (i ≡ j → ⊥) → made new i ≤ steps p i + 1
      go (inl same) = omega (arith, made_mine i same, ap (steps p) same, moves_within p c j t sound can)
      go (inr other) = omega (arith, made_other i other, sound.few_moves i inside)

  moved-gone_not_ready : (i : ℕ) → IsGone p new i → ready new i ≡ false
  moved-gone_not_ready i gone = go (cases_eq i j)
    where
      go : (i ≡ j) ⊎ (i ≡ j → ⊥) → ready new i ≡ false
      go (inl same) = ap (ready new) same ∙ moved.ready_mine
      go (inr other) = ready_other i other ∙ sound.gone_not_ready i (omega (arith, made_other i other))

  moved-in_order : (m : ℕ) → IsPrefix (entries new m) (order p m)
  moved-in_order m = ⊎_elim
      (λ visits. subst (λ (es : List ℕ). IsPrefix es (order p m)) (sym (moved.entered m visits)) (keeps m visits))
      (λ off. subst (λ (es : List ℕ). IsPrefix es (order p m)) (sym (moved.not_entered m off)) (sound.in_order m))
      (visits_or_not p j (made c j) m)

  moved-entered_made : (m a i k : ℕ) → Stands p m a i k → a < length (entries new m) → k < made new i
  moved-entered_made m a i k stands entered = go (cases_eq i j) (cases_lt a (length (entries c m)))
    where
      before : a < length (entries c m) → k < made c i
      before was = sound.entered_made m a i k stands was

      newly : length (entries c m) ≤ a → Visits p j (made c j) m → i ≡ j
      newly not_yet visits =
          let same : a ≡ length (entries c m) = omega (arith, entered_length m visits) in
          sym stands.job ∙ ap (job_at p m) same ∙ (target_next p c j m keeps visits).1

      go : (i ≡ j) ⊎ (i ≡ j → ⊥) → (a < length (entries c m)) ⊎ (length (entries c m) ≤ a) → k < made new i
      go (inl same) (inl was) = omega (arith, before was, made_mine i same, ap (made c) same)
      go (inr other) (inl was) = omega (arith, before was, made_other i other)
      go (inl same) (inr not_yet) = ⊎_elim
          (λ visits.
          let at : a ≡ length (entries c m) = omega (arith, entered_length m visits) in
          let mine : Stands p m (length (entries c m)) j k = subst (λ (x : ℕ). Stands p m x j k) at (subst (λ (x : ℕ). Stands p m a x k) same stands) in
          omega (arith, made_mine i same, stands_step p m (length (entries c m)) j k (made c j) mine (target_place p c j m shaped sound keeps visits)))
          (λ off. absurd (omega (arith, ap length (moved.not_entered m off))))
          (visits_or_not p j (made c j) m)
      go (inr other) (inr not_yet) = ⊎_elim
          (λ visits. absurd (other (newly not_yet visits)))
          (λ off. absurd (omega (arith, ap length (moved.not_entered m off))))
          (visits_or_not p j (made c j) m)

  -- the step that a move makes stands at the next place of its machine
  place_of_move : (m a i k : ℕ) → Stands p m a i k → i ≡ j → k ≡ made c j → a ≡ length (entries c m) × (Visits p j (made c j) m)
  place_of_move m a i k stands same_job same_step =
      let mine : Stands p m a j (made c j) = subst (λ (x : ℕ). Stands p m a x (made c j)) same_job (subst (λ (x : ℕ). Stands p m a i x) same_step stands) in
      (stands_once p m a (length (entries c m)) j (made c j) mine (target_place p c j m shaped sound keeps mine.visits), mine.visits)

  moved-made_entered : (m a i k : ℕ) → Stands p m a i k → k < made new i → a < length (entries new m)
  moved-made_entered m a i k stands is_made = go (cases_lt k (made c i)) (cases_eq i j)
    where
      go : (k < made c i) ⊎ (made c i ≤ k) → (i ≡ j) ⊎ (i ≡ j → ⊥) → a < length (entries new m)
      go (inl was) _ = omega (arith, sound.made_entered m a i k stands was, entries_grow m)
      go (inr not_yet) (inl same) =
          let found : a ≡ length (entries c m) × (Visits p j (made c j) m) = place_of_move m a i k stands same (omega (arith, made_mine i same, ap (made c) same)) in
          omega (arith, found.0, entered_length m found.1)
      go (inr not_yet) (inr other) = absurd (omega (arith, made_other i other))

  moved-newest : (m a i k : ℕ) → Stands p m a i k → made new i ≡ k + 1 → length (entries new m) ≡ a + 1
  moved-newest m a i k stands last_made = go (cases_eq i j)
    where
      go : (i ≡ j) ⊎ (i ≡ j → ⊥) → length (entries new m) ≡ a + 1
      go (inl same) =
          let found : a ≡ length (entries c m) × (Visits p j (made c j) m) = place_of_move m a i k stands same (omega (arith, made_mine i same)) in
          omega (arith, found.0, entered_length m found.1)
      go (inr other) =
          let on : made c i ≡ k + 1 = omega (arith, made_other i other) in
          ⊎_elim
          (λ visits. absurd ((target_free p c j t m can visits).0 i k (record { entered = on; visits = stands.visits })))
          (λ off. ap length (moved.not_entered m off) ∙ sound.newest m a i k stands on)
          (visits_or_not p j (made c j) m)

  -- what is being cleaned was being cleaned before, or is the machine that the job has left
  pub cleaned_why : (m s : ℕ) → cleaning new m ≡ Some s → (cleaning c m ≡ Some s) ⊎ ((k : ℕ) × (IsOn p c j k m × (0 < clean p m)))
  cleaned_why m s cleaned = go (on_or_not p c j m) (eq-zero-or-pos (clean p m))
    where
      go : ((k : ℕ) × IsOn p c j k m) ⊎ ((k : ℕ) → IsOn p c j k m → ⊥) → (clean p m ≡ 0) ⊎ (0 < clean p m)
          → (cleaning c m ≡ Some s) ⊎ ((k : ℕ) × (IsOn p c j k m × (0 < clean p m)))
      go (inl (k, on)) (inl needless) = inl (sym (moved.cleaning_needless k m on needless) ∙ cleaned)
      go (inl (k, on)) (inr timed) = inr (k, (on, timed))
      go (inr off) _ = inl (sym (moved.cleaning_elsewhere m off) ∙ cleaned)

  moved-cleaned_timed : (m s : ℕ) → cleaning new m ≡ Some s → 0 < clean p m
  moved-cleaned_timed m s cleaned = ⊎_elim (λ was. sound.cleaned_timed m s was) (λ begun. begun.1.1) (cleaned_why m s cleaned)

  -- a job is on a machine that was entered
  on_entered : (k m : ℕ) → IsOn p c j k m → 0 < length (entries c m)
  on_entered k m on = go (visits-stands p j k m shaped on.visits)
    where
      go : (a : ℕ) × Stands p m a j k → 0 < length (entries c m)
      go (a, stands) = omega (arith, sound.newest m a j k stands on.entered)

  moved-cleaned_entered : (m s : ℕ) → cleaning new m ≡ Some s → 0 < length (entries new m)
  moved-cleaned_entered m s cleaned = ⊎_elim
      (λ was. omega (arith, entries_grow m, sound.cleaned_entered m s was))
      (λ begun. omega (arith, entries_grow m, on_entered begun.0 m begun.1.0))
      (cleaned_why m s cleaned)

  moved-cleaned_free : (m s : ℕ) → cleaning new m ≡ Some s → IsFree p new m
  moved-cleaned_free m s cleaned i k on = go (cases_eq i j) (cleaned_why m s cleaned)
    where
      go : (i ≡ j) ⊎ (i ≡ j → ⊥) → (cleaning c m ≡ Some s) ⊎ ((l : ℕ) × (IsOn p c j l m × (0 < clean p m))) → ⊥
      go (inl same) (inl was) =
          let same_step : k ≡ made c j = omega (arith, on.entered, made_mine i same) in
          let is_clean = (target_free p c j t m can (subst (λ (x : ℕ). Visits p j x m) same_step (visits_mine i k m same on.visits))).1 in
          cc
      go (inl same) (inr (l, begun)) =
          visits_apart p j l k m shaped begun.0.visits (visits_mine i k m same on.visits) (omega (arith, on.entered, made_mine i same, begun.0.entered))
      go (inr other) (inl was) = sound.cleaned_free m s was i k (record { entered = sym (made_other i other) ∙ on.entered; visits = on.visits })
      go (inr other) (inr (l, begun)) =
          other (alone_on p c i k j l m shaped sound (record { entered = sym (made_other i other) ∙ on.entered; visits = on.visits }) begun.0)

  pub moved-sound : IsSound p new
  moved-sound = record {
    job_count = moved.job_count ∙ sound.job_count;
    machine_count = moved.machine_count ∙ sound.machine_count;
    last_in_range = omega (arith, moved.moment, can.moment.in_range);
    begun = moved-begun;
    few_moves = moved-few_moves;
    gone_not_ready = moved-gone_not_ready;
    in_order = moved-in_order;
    entered_made = moved-entered_made;
    made_entered = moved-made_entered;
    newest = moved-newest;
    cleaned_timed = moved-cleaned_timed;
    cleaned_entered = moved-cleaned_entered;
    cleaned_free = moved-cleaned_free;
  }

pub after_move-sound : (p : PlannedShop) (c : Cell) (j t : ℕ) → IsWellShaped p → IsSound p c → CanMove p c j t → KeepsPlan p c j → IsSound p (after_move p c j t)
after_move-sound p c j t shaped sound can keeps = moved-sound p c j t (after_move p c j t) shaped sound can keeps (after_move-moved p c j t shaped sound can)

pub after-sound : (p : PlannedShop) (c : Cell) (e : Event) → IsWellShaped p → IsSound p c → CanHappen p c e → IsSound p (after p c e)
after-sound p c (Reported r) shaped sound can = after_report-sound p c r shaped sound can
after-sound p c (Moved o) shaped sound (can, keeps) = after_move-sound p c o.job o.at shaped sound can.can keeps

pub after_all-sound : (p : PlannedShop) (c : Cell) (es : List Event) → IsWellShaped p → IsSound p c → AreEvents p c es → IsSound p (after_all p c es)
after_all-sound p c [] shaped sound can = sound
after_all-sound p c (e ∷ es) shaped sound (first, rest) = after_all-sound p (after p c e) es shaped (after-sound p c e shaped sound first) rest

pub run-sound : (p : PlannedShop) (es : List Event) → IsWellShaped p → IsRun p es → IsSound p (ends_in p es)
run-sound p es shaped run = after_all-sound p (start p) es shaped (start-sound p shaped) run

-- a node is made once its move has been made
abbrev pub IsMade : Cell → Node → Type 0
IsMade c v = v.place < made c v.job

-- whoever entered a machine and isn't on it has left it
pub left_since : (p : PlannedShop) (c : Cell) (i k : ℕ) → k < made c i → (made c i ≡ k + 1 → ⊥) → k + 1 < made c i
left_since p c i k entered off = ⊎_elim (λ on. absurd (off on)) (λ gone. omega arith) (cases_eq (made c i) (k + 1))

-- the source of each arc to the next node of job j is made
pub needs : (p : PlannedShop) (c : Cell) (j t : ℕ) (u v : Node) (d : ℕ) → IsWellShaped p → IsSound p c → CanMove p c j t → KeepsPlan p c j
    → Arc p u v d → v.job ≡ j → v.place ≡ made c j → IsMade c u
needs p c j t u v d shaped sound can keeps (job_arc i k within) same_job same_place = omega (arith, ap (made c) same_job)
needs p c j t u v d shaped sound can keeps (blocking_arc m a i k h l one other) same_job same_place =
    left_since p c i k (sound.entered_made m a i k one (omega (arith, place))) λ on. (target_free p c j t m can visits).0 i k (record { entered = on; visits = one.visits })
  where
    next : Stands p m (a + 1) j (made c j)
    next = subst (λ (x : ℕ). Stands p m (a + 1) x (made c j)) same_job (subst (λ (x : ℕ). Stands p m (a + 1) h x) same_place other)

    visits : Visits p j (made c j) m
    visits = next.visits

    place : length (entries c m) ≡ a + 1
    place = stands_once p m (length (entries c m)) (a + 1) j (made c j) (target_place p c j m shaped sound keeps visits) next

-- where a job can make its next move, the source of each arc to that node is made
pub move_needs : (p : PlannedShop) (c : Cell) (j t : ℕ) (u : Node) (d : ℕ) → IsWellShaped p → IsSound p c → CanMove p c j t → KeepsPlan p c j → Arc p u (node j (made c j)) d → IsMade c u
move_needs p c j t u d shaped sound can keeps arc = needs p c j t u (node j (made c j)) d shaped sound can keeps arc refl refl
