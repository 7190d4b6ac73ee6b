-- What a move and a report change, reader by reader: all later proofs take these records, and never unfold a write.
use Rattle.std.proofs.Common.{◌≡◌, ◌≢◌, ℕ, zero, suc, ◌+◌, ◌<◌, ◌≤◌, List, [], ◌∷◌, ◌++◌, length, drop, Some, None, Bool, true, false, refl, ap, sym, ◌∙◌, arith, set, get_or, nat_lt, if◌then◌else◌, length-set, get_or-set_same, get_or-set_other, lt_of_not-le, ltb-true, ltb-false, inl, inr, ◌⊎◌}
use Rattle.std.proofs.lemmas.Bool.{cases_eq, cases_lt}
use Rattle.std.proofs.lemmas.List.{get_or_past}
use Rattle.shop_base.specs.Plan.{PlannedShop, route, machine_of, steps, clean, Visits, IsWellShaped}
use Rattle.shop_base.specs.Cell.{Cell, MachineState, absent, unused, job_in, machine_in, with_machine, made, ready, since, entries, cleaning, IsOn}
use Rattle.shop_base.specs.declared.job_state.JobState.{JobState}
use Rattle.shop_base.specs.Report.{with_ready, with_clean}
use Rattle.shop_base.specs.Move.{first_stop, spot_after, source, target, CanMove, after_leaving, with_entry, with_moved, after_move}
use Rattle.shop_base.specs.declared.move_order.Spot.TheVariants.{At}
use Rattle.shop_base.specs.Sound.{IsSound}
use Rattle.shop_base.proofs.Visits.{visits_machine, stop_at, stop_past}

-- new is c after a move of job j at moment t
pub record IsMoved (p : PlannedShop) (c : Cell) (j t : ℕ) (new : Cell) : Type 0 where
  pub made_mine : made new j ≡ made c j + 1
  pub ready_mine : ready new j ≡ false
  pub since_mine : since new j ≡ t
  pub others : (i : ℕ) → i ≢ j → job_in new i ≡ job_in c i
  pub entered : (m : ℕ) → Visits p j (made c j) m → entries new m ≡ entries c m ++ j ∷ []
  pub not_entered : (m : ℕ) → (Visits p j (made c j) m → ⊥) → entries new m ≡ entries c m
  pub cleaning_begins : (k m : ℕ) → IsOn p c j k m → 0 < clean p m → cleaning new m ≡ Some t
  pub cleaning_needless : (k m : ℕ) → IsOn p c j k m → clean p m ≡ 0 → cleaning new m ≡ cleaning c m
  pub cleaning_elsewhere : (m : ℕ) → ((k : ℕ) → IsOn p c j k m → ⊥) → cleaning new m ≡ cleaning c m
  pub moment : new.last ≡ t
  pub job_count : length new.jobs ≡ length c.jobs
  pub machine_count : length new.machines ≡ length c.machines

-- new is c after a report at moment t that makes job j ready
pub record IsReadied (c : Cell) (j t : ℕ) (new : Cell) : Type 0 where
  pub made_same : (i : ℕ) → made new i ≡ made c i
  pub since_same : (i : ℕ) → since new i ≡ since c i
  pub ready_mine : ready new j ≡ true
  pub others : (i : ℕ) → i ≢ j → job_in new i ≡ job_in c i
  pub machines_same : new.machines ≡ c.machines
  pub moment : new.last ≡ t
  pub job_count : length new.jobs ≡ length c.jobs

-- new is c after a report at moment t that ends the cleaning of machine m
pub record IsTidied (c : Cell) (m t : ℕ) (new : Cell) : Type 0 where
  pub jobs_same : new.jobs ≡ c.jobs
  pub entries_same : (n : ℕ) → entries new n ≡ entries c n
  pub cleaning_mine : cleaning new m ≡ None
  pub cleaning_elsewhere : (n : ℕ) → n ≢ m → cleaning new n ≡ cleaning c n
  pub moment : new.last ≡ t
  pub machine_count : length new.machines ≡ length c.machines

-- a write that keeps what f reads of the element keeps what f reads everywhere
set-keeps : {A X : Type 0} (f : A → X) (l : List A) (i : ℕ) (a d : A) → i < length l → f a ≡ f (get_or l i d) → (n : ℕ) → f (get_or (set l i a) n d) ≡ f (get_or l n d)
set-keeps f l i a d inside kept n = go (cases_eq n i)
  where
    go : (n ≡ i) ⊎ (n ≡ i → ⊥) → f (get_or (set l i a) n d) ≡ f (get_or l n d)
    go (inl same) = rw same (ap f (get_or-set_same l i a d inside) ∙ kept)
    go (inr other) = ap f (get_or-set_other l i n a d other)

-- what leaving machine m at moment t changes
record IsDeparted (p : PlannedShop) (c : Cell) (m t : ℕ) (new : Cell) : Type 0 where
  jobs_same : new.jobs ≡ c.jobs
  entries_same : (n : ℕ) → entries new n ≡ entries c n
  cleaning_begins : (n : ℕ) → n ≡ m → 0 < clean p n → cleaning new n ≡ Some t
  cleaning_needless : (n : ℕ) → n ≡ m → clean p n ≡ 0 → cleaning new n ≡ cleaning c n
  cleaning_elsewhere : (n : ℕ) → n ≢ m → cleaning new n ≡ cleaning c n
  machine_count : length new.machines ≡ length c.machines

after_leaving-departed : (p : PlannedShop) (c : Cell) (m t : ℕ) → m < length c.machines → IsDeparted p c m t (after_leaving p c (At m) t)
after_leaving-departed p c m t inside = go (nat_lt 0 (clean p m)) refl
  where
    go : (b : Bool) → nat_lt 0 (clean p m) ≡ b
        → IsDeparted p c m t (if b then with_machine c m (record (machine_in c m) { cleaning = Some t }) else c)
    go true is = record {
      jobs_same = refl;
      entries_same = set-keeps (λ (x : MachineState). x.entries) c.machines m _ unused inside refl;
      cleaning_begins = λ n same timed. rw same (ap (λ (x : MachineState). x.cleaning) (get_or-set_same c.machines m _ unused inside));
      cleaning_needless = λ n same needless. absurd (omega (arith, ap (clean p) same, ltb-true 0 (clean p m) is));
      cleaning_elsewhere = λ n other. ap (λ (x : MachineState). x.cleaning) (get_or-set_other c.machines m n _ unused other);
      machine_count = length-set c.machines m _;
    }
    go false is = record {
      jobs_same = refl;
      entries_same = λ n. refl;
      cleaning_begins = λ n same timed. absurd (omega (arith, ap (clean p) same, ltb-false 0 (clean p m) is));
      cleaning_needless = λ n same needless. refl;
      cleaning_elsewhere = λ n other. refl;
      machine_count = refl;
    }

-- what leaving its source at moment t changes, for a job that has made n moves
record IsLeft (p : PlannedShop) (c : Cell) (j n t : ℕ) (new : Cell) : Type 0 where
  jobs_same : new.jobs ≡ c.jobs
  entries_same : (m : ℕ) → entries new m ≡ entries c m
  cleaning_begins : (k m : ℕ) → n ≡ k + 1 → Visits p j k m → 0 < clean p m → cleaning new m ≡ Some t
  cleaning_needless : (k m : ℕ) → n ≡ k + 1 → Visits p j k m → clean p m ≡ 0 → cleaning new m ≡ cleaning c m
  cleaning_elsewhere : (m : ℕ) → ((k : ℕ) → n ≡ k + 1 → Visits p j k m → ⊥) → cleaning new m ≡ cleaning c m
  machine_count : length new.machines ≡ length c.machines

after_leaving-left : (p : PlannedShop) (c : Cell) (j n t : ℕ) → ((k : ℕ) → n ≡ k + 1 → (k < steps p j) × (machine_of p j k < length c.machines)) → IsLeft p c j n t (after_leaving p c (spot_after p j n) t)
after_leaving-left p c j zero t inside = record {
  jobs_same = refl;
  entries_same = λ m. refl;
  cleaning_begins = λ k m is visits timed. absurd (omega arith);
  cleaning_needless = λ k m is visits needless. refl;
  cleaning_elsewhere = λ m off. refl;
  machine_count = refl;
}
after_leaving-left p c j (suc k) t inside = rw (stop_at p j k (machine_of p j k) (record { within = (inside k (omega arith)).0; here = refl })) (record {
  jobs_same = departed.jobs_same;
  entries_same = departed.entries_same;
  cleaning_begins = λ l m is visits timed. departed.cleaning_begins m (here l m is visits) timed;
  cleaning_needless = λ l m is visits needless. departed.cleaning_needless m (here l m is visits) needless;
  cleaning_elsewhere = λ m off. departed.cleaning_elsewhere m λ same. off k (omega arith) (record { within = (inside k (omega arith)).0; here = sym same });
  machine_count = departed.machine_count;
})
  where
    here : (l m : ℕ) → suc k ≡ l + 1 → Visits p j l m → m ≡ machine_of p j k
    here l m is visits = let same : k ≡ l = omega arith in sym (ap (machine_of p j) same ∙ visits.here)

    departed : IsDeparted p c (machine_of p j k) t (after_leaving p c (At (machine_of p j k)) t)
    departed = after_leaving-departed p c (machine_of p j k) t (inside k (omega arith)).1

-- what coming to its target changes, for a job that has made n moves
record IsEntered (p : PlannedShop) (c : Cell) (j n : ℕ) (new : Cell) : Type 0 where
  jobs_same : new.jobs ≡ c.jobs
  entered : (m : ℕ) → Visits p j n m → entries new m ≡ entries c m ++ j ∷ []
  not_entered : (m : ℕ) → (Visits p j n m → ⊥) → entries new m ≡ entries c m
  cleaning_same : (m : ℕ) → cleaning new m ≡ cleaning c m
  machine_count : length new.machines ≡ length c.machines

with_entry-entered : (p : PlannedShop) (c : Cell) (j n : ℕ) → (n < steps p j → machine_of p j n < length c.machines)
    → IsEntered p c j n (with_entry c j (first_stop (drop n (route p j))))
with_entry-entered p c j n inside = go (cases_lt n (steps p j))
  where
    entered : n < steps p j → (m : ℕ) → m ≡ machine_of p j n → entries (with_entry c j (At (machine_of p j n))) m ≡ entries c m ++ j ∷ []
    entered within m same = rw same (ap (λ (x : MachineState). x.entries) (get_or-set_same c.machines (machine_of p j n) _ unused (inside within)))

    go : (n < steps p j) ⊎ (steps p j ≤ n) → IsEntered p c j n (with_entry c j (first_stop (drop n (route p j))))
    go (inl within) = rw (stop_at p j n (machine_of p j n) (record { within = within; here = refl })) (record {
      jobs_same = refl;
      entered = λ m visits. entered within m (sym visits.here);
      not_entered = λ m off. ap (λ (x : MachineState). x.entries)
          (get_or-set_other c.machines (machine_of p j n) m _ unused λ same. off (record { within = within; here = sym same }));
      cleaning_same = set-keeps (λ (x : MachineState). x.cleaning) c.machines (machine_of p j n) _ unused (inside within) refl;
      machine_count = length-set c.machines (machine_of p j n) _;
    })
    go (inr past) = rw (stop_past p j n past) (record {
      jobs_same = refl;
      entered = λ m visits. absurd (omega (arith, visits.within));
      not_entered = λ m off. refl;
      cleaning_same = λ m. refl;
      machine_count = refl;
    })

-- a job that can move has no more moves behind it than its route has steps
pub moves_within : (p : PlannedShop) (c : Cell) (j t : ℕ) → IsSound p c → CanMove p c j t → made c j ≤ steps p j
moves_within p c j t sound can = elim (cases_lt (steps p j) (made c j)) [
  | inl gone ↦ absurd (none (sound.gone_not_ready j gone))
  | inr within ↦ within
]
  where
    none : ready c j ≡ false → ⊥
    none idle = let is_ready = can.is_ready in cc

-- only a job of the list can move
movable-inside : (p : PlannedShop) (c : Cell) (j t : ℕ) → CanMove p c j t → j < length c.jobs
movable-inside p c j t can = lt_of_not-le λ past. absurd (none (ap (λ (x : JobState). x.ready) (get_or_past c.jobs j absent past)))
  where
    none : ready c j ≡ false → ⊥
    none idle = let is_ready = can.is_ready in cc

-- a move, of its three parts
moved-parts : (p : PlannedShop) (c left came : Cell) (j t : ℕ) → j < length c.jobs → IsLeft p c j (made c j) t left → IsEntered p left j (made c j) came → IsMoved p c j t (with_moved came j t)
moved-parts p c left came j t inside leaves enters = record {
  made_mine = mine.0;
  ready_mine = mine.1;
  since_mine = mine.2;
  others = λ i other. get_or-set_other came.jobs j i _ absent other ∙ ap (λ (js : List JobState). get_or js i absent) jobs_same;
  entered = λ m visits. enters.entered m visits ∙ ap (λ (es : List ℕ). es ++ j ∷ []) (leaves.entries_same m);
  not_entered = λ m off. enters.not_entered m off ∙ leaves.entries_same m;
  cleaning_begins = λ k m on timed. enters.cleaning_same m ∙ leaves.cleaning_begins k m on.entered on.visits timed;
  cleaning_needless = λ k m on needless. enters.cleaning_same m ∙ leaves.cleaning_needless k m on.entered on.visits needless;
  cleaning_elsewhere = λ m off. enters.cleaning_same m ∙ leaves.cleaning_elsewhere m λ k is visits. off k (record { entered = is; visits = visits });
  moment = refl;
  job_count = length-set came.jobs j _ ∙ ap length jobs_same;
  machine_count = enters.machine_count ∙ leaves.machine_count;
}
  where
    jobs_same : came.jobs ≡ c.jobs
    jobs_same = enters.jobs_same ∙ leaves.jobs_same

    written : job_in (with_moved came j t) j ≡ record { made = made came j + 1; ready = false; since = t }
    written = get_or-set_same came.jobs j _ absent (omega (arith, ap length jobs_same))

    mine : (made (with_moved came j t) j ≡ made c j + 1) × (ready (with_moved came j t) j ≡ false) × (since (with_moved came j t) j ≡ t)
    mine = (
      ap (λ (x : JobState). x.made) written ∙ ap (λ (js : List JobState). (get_or js j absent).made + 1) jobs_same,
      ap (λ (x : JobState). x.ready) written,
      ap (λ (x : JobState). x.since) written,
    )

pub after_move-moved : (p : PlannedShop) (c : Cell) (j t : ℕ) → IsWellShaped p → IsSound p c → CanMove p c j t → IsMoved p c j t (after_move p c j t)
after_move-moved p c j t shaped sound can =
    moved-parts p c (after_leaving p c (source p c j) t) (with_entry (after_leaving p c (source p c j) t) j (target p c j)) j t (movable-inside p c j t can) leaves enters
  where
    inside : (k : ℕ) → k < steps p j → machine_of p j k < length c.machines
    inside k within = omega (arith, sound.machine_count, visits_machine p j k (machine_of p j k) shaped (record { within = within; here = refl }))

    before : (k : ℕ) → made c j ≡ k + 1 → k < steps p j
    before k is = omega (arith, moves_within p c j t sound can)

    leaves : IsLeft p c j (made c j) t (after_leaving p c (source p c j) t)
    leaves = after_leaving-left p c j (made c j) t λ k is. (before k is, inside k (before k is))

    enters : IsEntered p (after_leaving p c (source p c j) t) j (made c j) (with_entry (after_leaving p c (source p c j) t) j (target p c j))
    enters = with_entry-entered p (after_leaving p c (source p c j) t) j (made c j) λ within. omega (arith, leaves.machine_count, inside (made c j) within)

-- a job with an activity is one of the list
pub with_ready-readied : (c : Cell) (j t : ℕ) → ready c j ≡ false → j < length c.jobs → IsReadied c j t (with_ready c j t)
with_ready-readied c j t idle inside = record {
  made_same = set-keeps (λ (x : JobState). x.made) c.jobs j _ absent inside refl;
  since_same = set-keeps (λ (x : JobState). x.since) c.jobs j _ absent inside refl;
  ready_mine = ap (λ (x : JobState). x.ready) (get_or-set_same c.jobs j _ absent inside);
  others = λ i other. get_or-set_other c.jobs j i _ absent other;
  machines_same = refl;
  moment = refl;
  job_count = length-set c.jobs j _;
}

-- only a machine of the list is being cleaned
cleaned-inside : (c : Cell) (m s : ℕ) → cleaning c m ≡ Some s → m < length c.machines
cleaned-inside c m s cleaned = lt_of_not-le λ past. absurd (none (ap (λ (x : MachineState). x.cleaning) (get_or_past c.machines m unused past)))
  where
    none : cleaning c m ≡ None → ⊥
    none free = cc

pub with_clean-tidied : (c : Cell) (m s t : ℕ) → cleaning c m ≡ Some s → IsTidied c m t (with_clean c m t)
with_clean-tidied c m s t cleaned = record {
  jobs_same = refl;
  entries_same = set-keeps (λ (x : MachineState). x.entries) c.machines m _ unused inside refl;
  cleaning_mine = ap (λ (x : MachineState). x.cleaning) (get_or-set_same c.machines m _ unused inside);
  cleaning_elsewhere = λ n other. ap (λ (x : MachineState). x.cleaning) (get_or-set_other c.machines m n _ unused other);
  moment = refl;
  machine_count = length-set c.machines m _;
}
  where
    inside : m < length c.machines
    inside = cleaned-inside c m s cleaned
