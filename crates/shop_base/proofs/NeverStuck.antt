-- Never stuck: at rest, each job that isn't gone waits for an activity going on, by induction on the ranks; so a run has ended or can be reported to.
use Rattle.std.proofs.Common.{◌≡◌, ℕ, zero, suc, ◌+◌, ◌<◌, ◌≤◌, ◌⊎◌, inl, inr, Option, [], ◌∷◌, ◌++◌, length, Some, None, true, false, slice_index, refl, sym, ap, ◌∙◌, subst, arith, add-one, le_refl}
use Rattle.std.proofs.lemmas.Bool.{cases_lt, cases_Bool}
use Rattle.std.proofs.lemmas.List.{get_or_past}
use Rattle.shop_base.specs.declared.shop.Step.{Step}
use Rattle.shop_base.specs.declared.node.Node.{Node}
use Rattle.shop_base.specs.Plan.{PlannedShop, jobs, machines, steps, machine_of, release, nominal, clean, order, job_at, Stands, IsWellShaped}
use Rattle.shop_base.specs.Cell.{Cell, MachineState, absent, unused, made, ready, since, entries, cleaning, IsGone, IsFree}
use Rattle.shop_base.specs.declared.job_state.JobState.{JobState}
use Rattle.shop_base.specs.Activity.{Activity, Arrival, Operation, Cleaning, GoesOn, IsIdle}
use Rattle.shop_base.specs.Move.{IsPrefix}
use Rattle.shop_base.specs.Run.{IsAtRest, IsStuck}
use Rattle.shop_base.specs.Ends.{HasEnded}
use Rattle.shop_base.specs.Graph.{job_arc, blocking_arc, RanksRise, node}
use Rattle.shop_base.specs.Sound.{IsSound}
use Rattle.shop_base.specs.Ahead.{HoldsUp}
use Rattle.shop_base.specs.Within.{RiseAhead}
use Rattle.shop_base.specs.NeverStuckLaw.{CanReportEach, CanGoOn}
use Rattle.shop_base.proofs.Visits.{visits_job, visits_machine, visits-stands, past_leaves}
use Rattle.shop_base.proofs.Reports.{can-report_of}
use Rattle.shop_base.proofs.Places.{stands_at, same_stand, prefix_grows}

-- a machine is being cleaned since some moment, or it isn't
cleaned_or_not : (cleaned : Option ℕ) → (cleaned ≡ None) ⊎ ((s : ℕ) × (cleaned ≡ Some s))
cleaned_or_not None = inl refl
cleaned_or_not (Some s) = inr (s, refl)

-- an activity going on, which holds up a node whose moment is at most that of node v, where moments rise ahead
pub record HasActivityBy (p : PlannedShop) (c : Cell) (v : Node) : Type 0 where
  pub activity : Activity
  pub due : ℕ
  pub going : GoesOn p c activity due
  pub held : Node
  pub holds : HoldsUp p c activity held
  pub leads : (kept : Node → ℕ) → RiseAhead p c kept → kept held ≤ kept v

-- what rises with each step from k on rises from k to l
rises : (g : ℕ → ℕ) (l k : ℕ) → ((n : ℕ) → k ≤ n → n < l → g n ≤ g (n + 1)) → k ≤ l → g k ≤ g l
rises g zero k up below = let same : k ≡ 0 = omega arith in rw same (le_refl (g 0))
rises g (suc l) k up below = elim (cases_lt k (suc l)) [
  | inl less ↦ (let first : g k ≤ g l = rises g l k (λ n from lt. up n from (omega arith)) (omega arith) in
      let last : g l ≤ g (suc l) = rw add-one at (up l (omega arith) (omega arith)) in omega arith)
  | inr more ↦ (let same : k ≡ suc l = omega arith in rw same (le_refl (g (suc l))))
]

-- along a job's places the ranks rise
pub ranks_rise_along : (p : PlannedShop) (rank : Node → ℕ) (j k l : ℕ) → RanksRise p rank → l ≤ steps p j → k ≤ l → rank (node j k) ≤ rank (node j l)
ranks_rise_along p rank j k l rise within below = rises (λ n. rank (node j n)) l k (λ n from lt. one n (omega arith)) below
  where
    one : (n : ℕ) → n < steps p j → rank (node j n) ≤ rank (node j (n + 1))
    one n lt = let up : rank (node j n) < rank (node j (n + 1)) = rise _ _ _ (job_arc j n lt) in omega arith

-- along a job's places ahead the moments that rise ahead rise
pub ahead_rises : (p : PlannedShop) (c : Cell) (kept : Node → ℕ) (j k l : ℕ) → RiseAhead p c kept → made c j ≤ k → k ≤ l → l ≤ steps p j → kept (node j k) ≤ kept (node j l)
ahead_rises p c kept j k l rise ahead below within = rises (λ n. kept (node j n)) l k one below
  where
    one : (n : ℕ) → k ≤ n → n < l → kept (node j n) ≤ kept (node j (n + 1))
    one n from lt = rise (node j n) (node j (n + 1)) (nominal p j n) (omega arith) (job_arc j n (omega arith))

-- a job that isn't ready has an activity of its own
not_ready-active : (p : PlannedShop) (c : Cell) (j k : ℕ) → j < jobs p → ready c j ≡ false → made c j ≡ k → k ≤ steps p j → HasActivityBy p c (node j k)
not_ready-active p c j zero inside not_ready made_is within = record {
  activity = Arrival j;
  due = release p j;
  going = record { outside = made_is; not_ready = not_ready; is_due = refl };
  held = node j zero;
  holds = ap (node j) (sym made_is);
  leads = λ kept rise. le_refl (kept (node j zero));
}
not_ready-active p c j (suc k) inside not_ready made_is within = record {
  activity = Operation j (machine_of p j k);
  due = since c j + nominal p j k;
  going = (k, record { on = record { entered = omega arith; visits = record { within = within; here = refl } }; not_ready = not_ready; is_due = refl });
  held = node j (suc k);
  holds = ap (node j) (sym made_is);
  leads = λ kept rise. le_refl (kept (node j (suc k)));
}

-- a ready job that has made all its entries can leave
no_leaving : (p : PlannedShop) (c : Cell) (j : ℕ) → IsSound p c → IsAtRest p c → ready c j ≡ true → made c j ≡ steps p j → ⊥
no_leaving p c j sound rest is_ready all = rest j c.last
    (record { is_ready = is_ready; way = inl (past_leaves p c j (omega arith)); moment = record { in_order = le_refl c.last; in_range = sound.last_in_range } })
    (λ m visits. absurd (omega (arith, visits.within)))

-- a ready job that is next in the order of its machine can enter it where that is free and clean
no_entry : (p : PlannedShop) (c : Cell) (j m a : ℕ) → IsWellShaped p → IsSound p c → IsAtRest p c → ready c j ≡ true → Stands p m a j (made c j) → length (entries c m) ≡ a → IsFree p c m → cleaning c m ≡ None → ⊥
no_entry p c j m a shaped sound rest is_ready stands next free is_clean = rest j c.last
    (record {
      is_ready = is_ready;
      way = inr (m, record { next = stands.visits; free = free; is_clean = is_clean });
      moment = record { in_order = le_refl c.last; in_range = sound.last_in_range };
    })
    (λ n visits. subst (λ n. IsPrefix (entries c n ++ j ∷ []) (order p n)) (sym stands.visits.here ∙ visits.here) grown)
  where
    at : slice_index (order p m) (length (entries c m)) ≡ j
    at = rw next stands.job

    grown : IsPrefix (entries c m ++ j ∷ []) (order p m)
    grown = prefix_grows (entries c m) (order p m) j (sound.in_order m) (omega (arith, stands.within)) at

-- where a machine's last entrant has left it, it is free
left-free : (p : PlannedShop) (c : Cell) (m b i k : ℕ) → IsWellShaped p → IsSound p c → Stands p m b i k → length (entries c m) ≡ b + 1 → k + 1 < made c i → IsFree p c m
left-free p c m b i k shaped sound stands newest gone_on j l on =
    let (a, place) = visits-stands p j l m shaped on.visits in
    let count : length (entries c m) ≡ a + 1 = sound.newest m a j l place on.entered in
    let (jobs_same, steps_same) = same_stand p m a b j l i k shaped (omega arith) place stands in
    let made_same : made c j ≡ made c i = ap (made c) jobs_same in
    let entered : made c j ≡ l + 1 = on.entered in
    omega arith

-- a machine that nobody has entered is free
unentered-free : (p : PlannedShop) (c : Cell) (m : ℕ) → IsWellShaped p → IsSound p c → length (entries c m) ≡ 0 → IsFree p c m
unentered-free p c m shaped sound none j l on =
    let (a, place) = visits-stands p j l m shaped on.visits in
    let count : length (entries c m) ≡ a + 1 = sound.newest m a j l place on.entered in
    omega arith

-- a job that is next after one that hasn't left the machine waits for what that one waits for
behind-active : (p : PlannedShop) (c : Cell) (m b i k j l : ℕ) → Stands p m b i k → Stands p m (b + 1) j l → made c i ≤ k + 1 → HasActivityBy p c (node i (made c i)) → HasActivityBy p c (node j l)
behind-active p c m b i k j l before after here found = record {
  activity = found.activity;
  due = found.due;
  going = found.going;
  held = found.held;
  holds = found.holds;
  leads = λ kept rise.
      let within : k < steps p i = before.visits.within in
      let first : kept found.held ≤ kept (node i (made c i)) = found.leads kept rise in
      let along : kept (node i (made c i)) ≤ kept (node i (k + 1)) = ahead_rises p c kept i (made c i) (k + 1) rise (le_refl (made c i)) here (omega arith) in
      let arc : kept (node i (k + 1)) ≤ kept (node j l) = rise (node i (k + 1)) (node j l) (clean p m) here (blocking_arc m b i k j l before after) in
      omega arith;
}

-- a job that is next at a machine that is being cleaned waits for that cleaning
cleaned-active : (p : PlannedShop) (c : Cell) (m b i k j l s : ℕ) → Stands p m b i k → Stands p m (b + 1) j l → length (entries c m) ≡ b + 1 → cleaning c m ≡ Some s → HasActivityBy p c (node j l)
cleaned-active p c m b i k j l s before after newest cleaned = record {
  activity = Cleaning m;
  due = s + clean p m;
  going = (s, record { is_cleaned = cleaned; is_due = refl });
  held = node j l;
  holds = rw newest after;
  leads = λ kept rise. le_refl (kept (node j l));
}

-- each job of the shop that isn't gone, and whose next node's rank is less than n, has such an activity
abbrev AreActiveBelow : PlannedShop → (Node → ℕ) → Cell → ℕ → Type 0
AreActiveBelow p rank c n = (j : ℕ) → j < jobs p → made c j ≤ steps p j → rank (node j (made c j)) < n → HasActivityBy p c (node j (made c j))

-- a job whose next machine wasn't left by the job before it waits
blocked-active : (p : PlannedShop) (rank : Node → ℕ) (c : Cell) (m b i k j l : ℕ) → RanksRise p rank → AreActiveBelow p rank c (rank (node j l)) → Stands p m b i k → Stands p m (b + 1) j l → made c i ≤ k + 1 → HasActivityBy p c (node j l)
blocked-active p rank c m b i k j l rise earlier before after here =
    let within : k < steps p i = before.visits.within in
    let along : rank (node i (made c i)) ≤ rank (node i (k + 1)) = ranks_rise_along p rank i (made c i) (k + 1) rise (omega arith) here in
    let arc : rank (node i (k + 1)) < rank (node j l) = rise _ _ _ (blocking_arc m b i k j l before after) in
    behind-active p c m b i k j l before after here (earlier i (visits_job p i k m before.visits) (omega arith) (omega arith))

-- a job that is first in the order of its next machine can enter it
first-never : (p : PlannedShop) (c : Cell) (j m : ℕ) → IsWellShaped p → IsSound p c → IsAtRest p c → ready c j ≡ true → Stands p m 0 j (made c j) → ⊥
first-never p c j m shaped sound rest is_ready stands = elim (cases_lt 0 (length (entries c m))) [
  | inl some ↦ (let entered : made c j < made c j = sound.entered_made m 0 j (made c j) stands some in omega arith)
  | inr none ↦ elim (cleaned_or_not (cleaning c m)) [
    | inl is_clean ↦ no_entry p c j m 0 shaped sound rest is_ready stands (omega arith) (unentered-free p c m shaped sound (omega arith)) is_clean
    | inr (s, cleaned) ↦ (let entered : 0 < length (entries c m) = sound.cleaned_entered m s cleaned in omega arith)
  ]
]

-- a ready job that comes after another in the order of its next machine has such an activity
next-active : (p : PlannedShop) (rank : Node → ℕ) (c : Cell) (m b i k j : ℕ) → IsWellShaped p → RanksRise p rank → IsSound p c → IsAtRest p c → ready c j ≡ true → AreActiveBelow p rank c (rank (node j (made c j))) → Stands p m b i k → Stands p m (b + 1) j (made c j) → HasActivityBy p c (node j (made c j))
next-active p rank c m b i k j shaped rise sound rest is_ready earlier before after = elim (cases_lt (k + 1) (made c i)) [
  | inr here ↦ blocked-active p rank c m b i k j (made c j) rise earlier before after here
  | inl gone_on ↦ (let newest : length (entries c m) ≡ b + 1 = counted gone_on in elim (cleaned_or_not (cleaning c m)) [
    | inl is_clean ↦ absurd (no_entry p c j m (b + 1) shaped sound rest is_ready after newest (left-free p c m b i k shaped sound before newest gone_on) is_clean)
    | inr (s, cleaned) ↦ cleaned-active p c m b i k j (made c j) s before after newest cleaned
  ])
]
  where
    counted : k + 1 < made c i → length (entries c m) ≡ b + 1
    counted gone_on =
        let entered : b < length (entries c m) = sound.made_entered m b i k before (omega arith) in
        elim (cases_lt (b + 1) (length (entries c m))) [
          | inl more ↦ (let again : made c j < made c j = sound.entered_made m (b + 1) j (made c j) after more in omega arith)
          | inr less ↦ omega arith
        ]

-- a ready job with a step to go has such an activity
entry-active : (p : PlannedShop) (rank : Node → ℕ) (c : Cell) (j m a : ℕ) → IsWellShaped p → RanksRise p rank → IsSound p c → IsAtRest p c → ready c j ≡ true → AreActiveBelow p rank c (rank (node j (made c j))) → Stands p m a j (made c j) → HasActivityBy p c (node j (made c j))
entry-active p rank c j m zero shaped rise sound rest is_ready earlier stands = absurd (first-never p c j m shaped sound rest is_ready stands)
entry-active p rank c j m (suc b) shaped rise sound rest is_ready earlier stands =
    let within : suc b < length (order p m) = stands.within in
    let (k, before) = stands_at p m b shaped (visits_machine p j (made c j) m shaped stands.visits) (omega arith) in
    let after : Stands p m (b + 1) j (made c j) = rw add-one stands in
    next-active p rank c m b (job_at p m b) k j shaped rise sound rest is_ready earlier before after

-- a job of the shop that isn't gone has such an activity, if all jobs with smaller ranks have one
waits-active : (p : PlannedShop) (rank : Node → ℕ) (c : Cell) (j : ℕ) → IsWellShaped p → RanksRise p rank → IsSound p c → IsAtRest p c → j < jobs p → made c j ≤ steps p j → AreActiveBelow p rank c (rank (node j (made c j))) → HasActivityBy p c (node j (made c j))
waits-active p rank c j shaped rise sound rest inside left earlier = elim (cases_Bool (ready c j)) [
  | inr not_ready ↦ not_ready-active p c j (made c j) inside not_ready refl left
  | inl is_ready ↦ elim (cases_lt (made c j) (steps p j)) [
    | inr all ↦ absurd (no_leaving p c j sound rest is_ready (omega arith))
    | inl within ↦ (let (a, stands) = visits-stands p j (made c j) (machine_of p j (made c j)) shaped (record { within = within; here = refl }) in
        entry-active p rank c j (machine_of p j (made c j)) a shaped rise sound rest is_ready earlier stands)
  ]
]

-- by induction on n, all such jobs have one
all-active : (p : PlannedShop) (rank : Node → ℕ) (c : Cell) (n : ℕ) → IsWellShaped p → RanksRise p rank → IsSound p c → IsAtRest p c → AreActiveBelow p rank c n
all-active p rank c zero shaped rise sound rest j inside left below = absurd (omega arith)
all-active p rank c (suc n) shaped rise sound rest j inside left below =
    waits-active p rank c j shaped rise sound rest inside left
    (λ i here to_go less. all-active p rank c n shaped rise sound rest i here to_go (omega arith))

-- at rest, a job of the shop that isn't gone waits for an activity, which holds up a node whose moment is at most that of its next, where moments rise ahead
pub rest-active : (p : PlannedShop) (rank : Node → ℕ) (c : Cell) (j : ℕ) → IsWellShaped p → RanksRise p rank → IsSound p c → IsAtRest p c → j < jobs p → made c j ≤ steps p j → HasActivityBy p c (node j (made c j))
rest-active p rank c j shaped rise sound rest inside left = all-active p rank c (suc (rank (node j (made c j)))) shaped rise sound rest j inside left (omega arith)

-- of the first n jobs some isn't gone, or all are
some_left-or-all_gone : (p : PlannedShop) (c : Cell) (n : ℕ) → ((j : ℕ) × (j < n) × (made c j ≤ steps p j)) ⊎ ((j : ℕ) → j < n → IsGone p c j)
some_left-or-all_gone p c zero = inr (λ j below. absurd (omega arith))
some_left-or-all_gone p c (suc n) = elim (some_left-or-all_gone p c n) [
  | inl (j, below, left) ↦ inl (j, omega arith, left)
  | inr gone ↦ elim (cases_lt (steps p n) (made c n)) [
    | inr left ↦ inl (n, omega arith, left)
    | inl last ↦ inr (λ j below. elim (cases_lt j n) [ inl before ↦ gone j before | inr at ↦ (let same : j ≡ n = omega arith in rw same last) ])
  ]
]

-- of the first n machines some is being cleaned, or none is
some_cleaned-or-none : (c : Cell) (n : ℕ) → ((m : ℕ) × (s : ℕ) × (cleaning c m ≡ Some s)) ⊎ ((m : ℕ) → m < n → cleaning c m ≡ None)
some_cleaned-or-none c zero = inr (λ m below. absurd (omega arith))
some_cleaned-or-none c (suc n) = elim (some_cleaned-or-none c n) [
  | inl found ↦ inl found
  | inr clean ↦ elim (cleaned_or_not (cleaning c n)) [
    | inr (s, cleaned) ↦ inl (n, s, cleaned)
    | inl last ↦ inr (λ m below. elim (cases_lt m n) [ inl before ↦ clean m before | inr at ↦ (let same : m ≡ n = omega arith in rw same last) ])
  ]
]

-- a machine that isn't of the shop isn't being cleaned
outside-clean : (p : PlannedShop) (c : Cell) (m : ℕ) → IsSound p c → machines p ≤ m → cleaning c m ≡ None
outside-clean p c m sound outside = ap (λ (s : MachineState). s.cleaning) (get_or_past c.machines m unused (omega (arith, sound.machine_count)))

-- where all jobs are gone and no machine is being cleaned, nothing goes on
gone-idle : (p : PlannedShop) (c : Cell) → ((j k : ℕ) → made c j ≡ k → k ≤ steps p j → ⊥) → ((m s : ℕ) → cleaning c m ≡ Some s → ⊥) → IsIdle p c
gone-idle p c gone clean (Arrival j) due awaited = gone j 0 awaited.outside (omega arith)
gone-idle p c gone clean (Operation j m) due (k, worked) = gone j (k + 1) worked.on.entered (omega (arith, worked.on.visits.within))
gone-idle p c gone clean (Cleaning m) due (s, cleaned) = clean m s cleaned.is_cleaned

-- a job that isn't of the shop counts as gone
outside-gone : (p : PlannedShop) (c : Cell) (j : ℕ) → IsSound p c → jobs p ≤ j → IsGone p c j
outside-gone p c j sound outside =
    let none : steps p j ≡ 0 = ap (length {A = Step}) (get_or_past p.shop.routes j [] outside) in
    let one : made c j ≡ 1 = ap (λ (s : JobState). s.made) (get_or_past c.jobs j absent (omega (arith, sound.job_count))) in
    omega arith

-- each activity going on can be reported at the last moment
pub sound-reportable : (p : PlannedShop) (c : Cell) → IsSound p c → CanReportEach p c
sound-reportable p c sound a due going = can-report_of p c a due c.last going (record { in_order = le_refl c.last; in_range = sound.last_in_range })

goes_on-reportable : (p : PlannedShop) (c : Cell) (a : Activity) (due : ℕ) → IsSound p c → GoesOn p c a due → CanGoOn p c
goes_on-reportable p c a due sound going = (a, due, going, sound-reportable p c sound a due going)

-- at rest, the run has ended, or an activity going on can be reported at the last moment
pub ended-or-goes_on : (p : PlannedShop) (rank : Node → ℕ) (c : Cell) → IsWellShaped p → RanksRise p rank → IsSound p c → IsAtRest p c → HasEnded p c ⊎ CanGoOn p c
ended-or-goes_on p rank c shaped rise sound rest = elim (some_left-or-all_gone p c (jobs p)) [
  | inl (j, inside, left) ↦ (let found = rest-active p rank c j shaped rise sound rest inside left in inr (goes_on-reportable p c found.activity found.due sound found.going))
  | inr gone ↦ elim (some_cleaned-or-none c (machines p)) [
    | inl (m, s, cleaned) ↦ inr (goes_on-reportable p c (Cleaning m) (s + clean p m) sound (s, record { is_cleaned = cleaned; is_due = refl }))
    | inr clean ↦ inl (record { gone = gone; idle = gone-idle p c (not_left gone) (never_cleaned clean) })
  ]
]
  where
    not_left : ((j : ℕ) → j < jobs p → IsGone p c j) → (j k : ℕ) → made c j ≡ k → k ≤ steps p j → ⊥
    not_left gone j k made_is left = elim (cases_lt j (jobs p)) [
      | inl inside ↦ (let past : steps p j < made c j = gone j inside in omega arith)
      | inr outside ↦ (let past : steps p j < made c j = outside-gone p c j sound outside in omega arith)
    ]

    never_cleaned : ((m : ℕ) → m < machines p → cleaning c m ≡ None) → (m s : ℕ) → cleaning c m ≡ Some s → ⊥
    never_cleaned clean m s cleaned = elim (cases_lt m (machines p)) [
      | inl inside ↦ cc (clean m inside)
      | inr outside ↦ cc (outside-clean p c m sound outside)
    ]

-- at rest, the cell isn't stuck
pub rest-not_stuck : (p : PlannedShop) (rank : Node → ℕ) (c : Cell) → IsWellShaped p → RanksRise p rank → IsSound p c → IsAtRest p c → IsStuck p c → ⊥
rest-not_stuck p rank c shaped rise sound rest stuck =
    let (j, inside, not_gone) = stuck.unfinished in
    elim (cases_lt (steps p j) (made c j)) [
      | inl gone ↦ not_gone gone
      | inr left ↦ (let found = rest-active p rank c j shaped rise sound rest inside left in stuck.idle found.activity found.due found.going)
    ]
