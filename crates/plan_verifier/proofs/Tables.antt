-- What stands in the table of a cell's bounds.
use Rattle.std.proofs.Common.{◌≡◌, ◌↔◌, ℕ, ◌+◌, ◌-◌, ◌<◌, ◌≤◌, List, [], map, length, get_or, max, Bool, true, false, nat_lt, nat_eq, if◌then◌else◌, Option, None, Some, arith, refl, sym, ap, subst, ◌∙◌, ◌⊎◌, inl, inr, lt-ltb, le-ltb, ltb-true, eq-eqb, eqb-true}
use Rattle.std.specs.List.{range_with_len}
use Rattle.std.specs.Prelude.{IsTrue}
use Rattle.std.proofs.{lemmas.Bool.{cases_lt, cases_order, and_parts, and_from}, lemmas.Bool.Decides.same_from_decides, lemmas.List.get_or-map}
use Rattle.std.proofs.lemmas.List.FromFn.{get_or-map-range_with_len}
use Rattle.shop_base.specs.{declared.node.Node.Node, declared.job_state.JobState.JobState}
use Rattle.shop_base.specs.Plan.{PlannedShop, jobs, steps, order, machine_of, job_at, visits_before, places_before, Visits, Stands, IsWellShaped}
use Rattle.shop_base.specs.Cell.{Cell, job_in, made, since, entries, cleaning, absent}
use Rattle.shop_base.specs.Activity.{Activity, Arrival, Operation, Cleaning, GoesOn}
use Rattle.shop_base.specs.{Movers.{due_of_job, due_of_cleaning}, Sound.IsSound, Graph.{node, IsNode}}
use Rattle.shop_base.specs.Ahead.{next_node, IsAhead, HoldsUp}
use Rattle.shop_base.proofs.{CellFacts.{arrival_due, operation_due, cleaning_due, due_cleaning}, Ahead.held_left}
use Rattle.shop_base.proofs.{Counting.{count_rises, count_less}, Visits.{visits_machine, visits-stands, stands_step}, Places.stands_at}
use Rattle.alt_graph.specs.Bounds.{bound_of, IsAheadOf, AreRooted}
use Rattle.plan_verifier.specs.{CellBounds.{rest_bounds, bound_in, held_to, IsFirstAhead, is_next_in, cleaned_at}, Held.later_than}

-- where a table of bounds has a node's
pub in_table : (p : PlannedShop) (bound : Node → Option ℕ) (v : Node) → IsNode p v
    → get_or (get_or (map (λ j. map (λ k. bound (node j k)) (range_with_len 0 (steps p j + 1))) (range_with_len 0 (jobs p))) v.job []) v.place None ≡ bound v
in_table p bound v is =
    ap (λ (row : List (Option ℕ)). get_or row v.place None)
    (get_or-map-range_with_len (λ j. map (λ k. bound (node j k)) (range_with_len 0 (steps p j + 1))) 0 (jobs p) v.job v.job [] is.job (omega arith))
    ∙ get_or-map-range_with_len (λ k. bound (node v.job k)) 0 (steps p v.job + 1) v.place v.place None (omega (arith, is.place)) (omega arith)

module _ (p : PlannedShop) (c : Cell) (t : ℕ) where
  -- a passed node has the moment of its job's last move
  pub bound_passed : (v : Node) → v.place < made c v.job → bound_in p c t v ≡ Some (since c v.job)
  bound_passed v passed = rw (lt-ltb v.place (made c v.job) passed) refl

  -- its job's next node the present moment or what goes on with the job, and a cleaning
  pub bound_next : (v : Node) → made c v.job ≡ v.place → bound_in p c t v ≡ Some (later_than (later_than t (due_of_job p v.job (job_in c v.job))) (cleaned_at p c v))
  bound_next v next = rw (le-ltb v.place (made c v.job) (omega arith), le-ltb (made c v.job) v.place (omega arith)) refl

  -- another node ahead what a cleaning does
  pub bound_later : (v : Node) → made c v.job < v.place → bound_in p c t v ≡ held_to t (cleaned_at p c v)
  bound_later v later = rw (le-ltb v.place (made c v.job) (omega arith), lt-ltb (made c v.job) v.place later) refl

  module _ (sound : IsSound p c) where
    pub made_in_table : (j : ℕ) → j < jobs p → get_or (rest_bounds p c t).made j 0 ≡ made c j
    made_in_table j inside = get_or-map (λ (s : JobState). s.made) c.jobs j absent 0 (omega (arith, sound.job_count))

    pub bound_in_table : (v : Node) → IsNode p v → bound_of (rest_bounds p c t) v ≡ bound_in p c t v
    bound_in_table v is = in_table p (bound_in p c t) v is

    -- a node is ahead by the table where it is in the cell
    pub ahead_of : (v : Node) → v.job < jobs p → IsAhead c v → IsAheadOf (rest_bounds p c t) v
    ahead_of v inside ahead = let here : made c v.job ≤ v.place = ahead in omega (arith, made_in_table v.job inside)

    pub of_ahead : (v : Node) → v.job < jobs p → IsAheadOf (rest_bounds p c t) v → IsAhead c v
    of_ahead v inside ahead = omega (arith, made_in_table v.job inside, ahead)

    -- a node without a bound is behind its job's next one
    pub rest_rooted : AreRooted p (rest_bounds p c t)
    rest_rooted v is free = elim (cases_order v.place (made c v.job)) [
      | inl same ↦ absurd (differ _ (sym (bound_in_table v is ∙ bound_next v (sym same)) ∙ free))
      | inr other ↦ elim other [
        | inl passed ↦ absurd (differ _ (sym (bound_in_table v is ∙ bound_passed v passed) ∙ free))
        | inr later ↦ (v.place - 1, omega arith, omega (arith, made_in_table v.job is.job))
      ]
    ]
      where
        differ : (n : ℕ) → Some n ≡ None → ⊥
        differ n bad = cc

pub ruleset bounds = (bound_passed, bound_next, bound_later, bound_in_table)

-- the later of two moments is one of them
pub later_is : (n : ℕ) (o : Option ℕ) → (later_than n o ≡ n) ⊎ ((m : ℕ) × (o ≡ Some m) × (later_than n o ≡ m))
later_is n None = inl refl
later_is n (Some m) = elim (cases_lt n m) [
  | inl less ↦ inr (m, refl, omega arith)
  | inr more ↦ inl (omega arith)
]

pub later_above : (n : ℕ) (o : Option ℕ) → n ≤ later_than n o
later_above n None = omega arith
later_above n (Some m) = omega arith

pub later_other : (n m : ℕ) (o : Option ℕ) → o ≡ Some m → m ≤ later_than n o
later_other n m o is = rw is (omega arith)

-- the next entry in the order of a machine, where that is for this visit
module _ (p : PlannedShop) (c : Cell) (v : Node) (m : ℕ) where
  abbrev n : ℕ
  n = length (entries c m)

  pub next_there : is_next_in p c m v ≡ true → Visits p v.job v.place m → Stands p m n v.job v.place
  next_there next visits =
      let (within, turn) = and_parts (nat_lt n (length (order p m))) _ next in
      let (job, visit) = and_parts (nat_eq (job_at p m n) v.job) _ turn in
      record {
        within = ltb-true n (length (order p m)) within;
        job = eqb-true (job_at p m n) v.job job;
        visits = visits;
        turn = eqb-true (places_before p m v.job n) (visits_before p v.job m v.place) visit;
      }

  pub there_next : Stands p m n v.job v.place → is_next_in p c m v ≡ true
  there_next stands =
      and_from (nat_lt n (length (order p m))) _ (lt-ltb n (length (order p m)) stands.within)
      (and_from (nat_eq (job_at p m n) v.job) _ (eq-eqb (job_at p m n) v.job stands.job) (eq-eqb (places_before p m v.job n) (visits_before p v.job m v.place) stands.turn))

  -- it is for the first visit ahead of the job whose turn it is
  module _ (shaped : IsWellShaped p) (sound : IsSound p c) (k : ℕ) (stands : Stands p m n v.job k) (visits : Visits p v.job v.place m) (ahead : IsAhead c v) where
    here : made c v.job ≤ v.place
    here = ahead

    -- for what it is isn't passed
    for_ahead : made c v.job ≤ k
    for_ahead = elim (cases_lt k (made c v.job)) [
      | inl passed ↦ absurd (omega (arith, sound.made_entered m n v.job k stands passed))
      | inr left ↦ left
    ]

    -- and the visits before it are
    before_made : (l : ℕ) → Visits p v.job l m → l < k → l < made c v.job
    before_made l other less =
        let (b, before) = visits-stands p v.job l m shaped other in
        let fewer : visits_before p v.job m l < visits_before p v.job m k =
        count_rises (λ (i : ℕ). nat_eq (machine_of p v.job i) m) l k (eq-eqb (machine_of p v.job l) m other.here) less in
        sound.entered_made m b v.job l before (count_less (λ (a : ℕ). nat_eq (job_at p m a) v.job) b n (omega (arith, before.turn, stands.turn, fewer)))

    pub first_there : IsFirstAhead p c m v → Stands p m n v.job v.place
    first_there first = elim (cases_order v.place k) [
      | inl same ↦ rw same stands
      | inr (inl less) ↦ absurd (omega (arith, here, before_made v.place visits less))
      | inr (inr more) ↦ absurd (first k for_ahead more stands.visits.here)
    ]

    pub there_first : Stands p m n v.job v.place → IsFirstAhead p c m v
    there_first there l left less on =
        let same : k ≡ v.place = stands_step p m n v.job k v.place stands there in
        omega (arith, left, before_made l (record { within = omega (arith, less, visits.within); here = on }) (omega (arith, same, less)))

  -- so the test for the one is a test for the other
  pub next_if_first : IsWellShaped p → IsSound p c → n < length (order p m) → job_at p m n ≡ v.job → Visits p v.job v.place m → IsAhead c v
      → (first : Bool) → (IsTrue first ↔ IsFirstAhead p c m v) → first ≡ is_next_in p c m v
  next_if_first shaped sound within job visits ahead first decides =
      let (k, next) = stands_at p m n shaped (visits_machine p v.job v.place m shaped visits) within in
      let stands = subst (λ j. Stands p m n j k) job next in
      same_from_decides first (is_next_in p c m v) decides
      (λ is. there_first shaped sound k stands visits ahead (next_there is visits), λ is. there_next (first_there shaped sound k stands visits ahead is))

module _ (p : PlannedShop) (c : Cell) (v : Node) (due : ℕ) where
  abbrev there : ℕ
  there = machine_of p v.job v.place

  -- the cleaning of which the table has the end goes on, and holds the node up
  pub cleaned_holds : cleaned_at p c v ≡ Some due → (m : ℕ) × GoesOn p c (Cleaning m) due × HoldsUp p c (Cleaning m) v
  cleaned_holds recorded = go (nat_lt v.place (steps p v.job)) refl (is_next_in p c there v) refl recorded
    where
      go : (b : Bool) → nat_lt v.place (steps p v.job) ≡ b → (d : Bool) → is_next_in p c there v ≡ d
          → (if b then (if d then due_of_cleaning p there (cleaning c there) else None) else None) ≡ Some due
          → (m : ℕ) × GoesOn p c (Cleaning m) due × HoldsUp p c (Cleaning m) v
      go true within true next at =
          (there, due_cleaning p c there due at, next_there p c v there next (record { within = ltb-true v.place (steps p v.job) within; here = refl }))
      go true within false next at = absurd cc
      go false past d next at = absurd cc

  -- and the other way round
  pub holds_cleaned : (m : ℕ) → GoesOn p c (Cleaning m) due → HoldsUp p c (Cleaning m) v → cleaned_at p c v ≡ Some due
  holds_cleaned m goes stands =
      rw (lt-ltb v.place (steps p v.job) stands.visits.within, stands.visits.here, there_next p c v m stands) (cleaning_due p c m due goes)

module _ (p : PlannedShop) (c : Cell) (t : ℕ) where
  -- a node ahead that has a bound is its job's next, or is held up by a cleaning until then
  pub bound_kind : (v : Node) (n : ℕ) → IsAhead c v → bound_in p c t v ≡ Some n
      → (made c v.job ≡ v.place) ⊎ ((m due : ℕ) × GoesOn p c (Cleaning m) due × HoldsUp p c (Cleaning m) v × (n ≡ max t due))
  bound_kind v n ahead recorded = elim (cases_order v.place (made c v.job)) [
    | inl same ↦ inl (sym same)
    | inr other ↦ elim other [
      | inl passed ↦ absurd (let here : made c v.job ≤ v.place = ahead in omega arith)
      | inr later ↦ inr (go (cleaned_at p c v) refl (sym (bound_later p c t v later) ∙ recorded))
    ]
  ]
    where
      go : (o : Option ℕ) → cleaned_at p c v ≡ o → held_to t o ≡ Some n → (m due : ℕ) × GoesOn p c (Cleaning m) due × HoldsUp p c (Cleaning m) v × (n ≡ max t due)
      go None none at = absurd cc
      go (Some due) found at = (let (m, going, holds) = cleaned_holds p c v due found in (m, due, going, holds, cc))

  -- no bound of a node ahead is before the present moment
  pub bound_from : (v : Node) (n : ℕ) → IsAhead c v → bound_in p c t v ≡ Some n → t ≤ n
  bound_from v n ahead recorded = elim (bound_kind v n ahead recorded) [
    | inl next ↦ (let first : ℕ = later_than t (due_of_job p v.job (job_in c v.job)) in
        let is : later_than first (cleaned_at p c v) ≡ n = (let both = sym (bound_next p c t v next) ∙ recorded in cc) in
        omega (arith, later_above t (due_of_job p v.job (job_in c v.job)), later_above first (cleaned_at p c v), is))
    | inr (m, due, going, holds, is) ↦ omega arith
  ]

  -- the node has a bound, which isn't before this moment
  abbrev pub IsBoundFrom : Node → ℕ → Type 0
  IsBoundFrom v due = (n : ℕ) × (bound_in p c t v ≡ Some n) × (due ≤ n)

  busy_bound : (j due : ℕ) → due_of_job p j (job_in c j) ≡ Some due → IsBoundFrom (next_node c j) due
  busy_bound j due recorded =
      let first : ℕ = later_than t (due_of_job p j (job_in c j)) in
      let v : Node = next_node c j in
      (later_than first (cleaned_at p c v), bound_next p c t v refl, omega (arith, later_other t due (due_of_job p j (job_in c j)) recorded, later_above first (cleaned_at p c v)))

  -- what holds up a node is due by its bound
  pub held_bound : (a : Activity) (due : ℕ) (v : Node) → IsSound p c → GoesOn p c a due → HoldsUp p c a v → IsBoundFrom v due
  held_bound (Arrival j) due v sound going holds = subst (λ (w : Node). IsBoundFrom w due) (sym holds) (busy_bound j due (arrival_due p c j due going))
  held_bound (Operation j m) due v sound going holds = subst (λ (w : Node). IsBoundFrom w due) (sym holds) (busy_bound j due (operation_due p c j m due going))
  held_bound (Cleaning m) due v sound going holds =
      let recorded = holds_cleaned p c v due m going holds in
      elim (cases_order v.place (made c v.job)) [
        | inl same ↦ (let first : ℕ = later_than t (due_of_job p v.job (job_in c v.job)) in
            (later_than first (cleaned_at p c v), bound_next p c t v (sym same), later_other first due (cleaned_at p c v) recorded))
        | inr other ↦ elim other [
          | inl passed ↦ absurd (let here : made c v.job ≤ v.place = (held_left p c (Cleaning m) due v sound going holds).ahead in omega arith)
          | inr later ↦ (max t due, bound_later p c t v later ∙ ap (held_to t) recorded, omega arith)
        ]
      ]
