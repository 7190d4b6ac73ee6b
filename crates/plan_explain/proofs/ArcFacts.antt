-- What arcs are printed as, and how long paths are.
use Rattle.std.proofs.Common.{◌≡◌, ℕ, ◌+◌, ◌-◌, ◌<◌, ◌≤◌, Bool, true, false, ◌&&◌, ◌⊎◌, inl, inr, List, [], ◌∷◌, ◌++◌, length, if◌then◌else◌, arith, refl, sym, ap, subst, ◌∙◌}
use Rattle.std.proofs.lemmas.Bool.{eq-eqb, eqb-true, lt-ltb, ltb-true, and_from, and_parts, not-true, not_from_false, both_ways, cases_eq, cases_lt, false_from_ne_true}
use Rattle.shop_base.specs.{declared.node.Node.Node, Plan.{PlannedShop, jobs, steps, machine_of, nominal, clean, order, Stands, IsWellShaped}}
use Rattle.shop_base.specs.Graph.{node, Arc, HasArc}
use Rattle.shop_base.proofs.{Counting.{count_found, count_rises}, Visits.visits-sound}
use Rattle.alt_graph.specs.Sources.{IsJobArc, IsBlockingArc, AreNeighbours, IsLongestArc}
use Rattle.alt_graph.proofs.ArcKinds.{arc_kind as arc_cases, job_arc_is, blocking_arc_is}
use Rattle.plan_explain.specs.{Arcs.{time_of, arc_kind, job_arc_kind, blocking_arc_kind, is_for, is_behind, is_held_longer, is_own}, ArcLookups.IsNext, Chains.{AreAlong, reached_at, length_from}}

-- no length is less than where it begins
pub length_grows : (p : PlannedShop) (t : ℕ) (u : Node) (vs : List Node) → t ≤ length_from p t u vs
length_grows p t u [] = omega arith
length_grows p t u (v ∷ vs) = omega (arith, length_grows p (reached_at p t u v) v vs)

-- a later beginning leads to no lesser length
pub length_rises : (p : PlannedShop) (s t : ℕ) (u : Node) (vs : List Node) → s ≤ t → length_from p s u vs ≤ length_from p t u vs
length_rises p s t u [] le = le
length_rises p s t u (v ∷ vs) le = length_rises p (reached_at p s u v) (reached_at p t u v) v vs (omega (arith, le))

-- the last of the nodes from u on
abbrev pub last_from : Node → List Node → Node
last_from u [] = u
last_from u (v ∷ vs) = last_from v vs

pub last_more : (u : Node) (us : List Node) (v : Node) → last_from u (us ++ v ∷ []) ≡ v
last_more u [] v = refl
last_more u (w ∷ ws) v = last_more w ws v

module _ (p : PlannedShop) where
  pub along_more : (u : Node) (us : List Node) (v : Node) → AreAlong p u us → HasArc p (last_from u us) v → AreAlong p u (us ++ v ∷ [])
  along_more u [] v along arc = (arc, tt)
  along_more u (w ∷ ws) v along arc = (along.0, along_more w ws v along.1 arc)

  pub length_more : (t : ℕ) (u : Node) (us : List Node) (v : Node) → length_from p t u (us ++ v ∷ []) ≡ length_from p t u us + time_of (arc_kind p (last_from u us) v)
  length_more t u [] v = refl
  length_more t u (w ∷ ws) v = length_more (reached_at p t u w) w ws v

-- ---- the tests of visits

module _ (p : PlannedShop) (m : ℕ) where
  for_stands : (a : ℕ) (v : Node) → a < length (order p m) → is_for p m v a ≡ true → Stands p m a v.job v.place
  for_stands a v within is =
      let (below, more) = and_parts _ _ is in
      let (here, most) = and_parts _ _ more in
      let (job, turn) = and_parts _ _ most in
      record {
        within = within;
        job = eqb-true _ _ job;
        visits = record { within = ltb-true _ _ below; here = eqb-true _ _ here };
        turn = eqb-true _ _ turn;
      }

  stands_for : (a : ℕ) (v : Node) → Stands p m a v.job v.place → is_for p m v a ≡ true
  stands_for a v stands =
      and_from _ _ (lt-ltb _ _ stands.visits.within) (and_from _ _ (eq-eqb _ _ stands.visits.here) (and_from _ _ (eq-eqb _ _ stands.job) (eq-eqb _ _ stands.turn)))

  module _ (v w : Node) where
    abbrev stand_here : ℕ → Bool
    stand_here a = is_for p m v a && is_for p m w (a + 1)

    behind_stands : is_behind p m v w ≡ true → AreNeighbours p m v w
    behind_stands is =
        let (a, less, both, same) = count_found stand_here (length (order p m) - 1) 0 (ltb-true _ _ is) in
        let (one, other) = and_parts _ _ both in
        (a, for_stands a v (omega (arith, less)) one, for_stands (a + 1) w (omega (arith, less)) other)

    stands_behind : AreNeighbours p m v w → is_behind p m v w ≡ true
    stands_behind (a, one, other) =
        lt-ltb _ _ (omega (arith, count_rises stand_here a (length (order p m) - 1) (and_from _ _ (stands_for a v one) (stands_for (a + 1) w other)) (omega (arith, other.within))))

-- ---- which of two arcs is shown

module _ (p : PlannedShop) (u v : Node) where
  -- how long the order's arc is
  abbrev order_time : ℕ
  order_time = clean p (machine_of p v.job v.place)

  blocking_time : (c : ℕ) → IsBlockingArc p u v c → c ≡ order_time
  blocking_time c is = is.length ∙ ap (clean p) (sym is.enters.visits.here)

  held_longer : (c : ℕ) → IsBlockingArc p u v c → nominal p u.job u.place < c → is_held_longer p u v ≡ true
  held_longer c is longer =
      let here = sym is.enters.visits.here in
      let step : is.step ≡ u.place - 1 = omega (arith, is.place) in
      let left = subst (λ (m : ℕ). Stands p m is.ahead u.job (u.place - 1)) here (subst (λ (k : ℕ). Stands p is.machine is.ahead u.job k) step is.left) in
      let enters = subst (λ (m : ℕ). Stands p m (is.ahead + 1) v.job v.place) here is.enters in
      and_from _ _ (lt-ltb _ _ (omega (arith, is.place))) (
      and_from _ _ (stands_behind p (machine_of p v.job v.place) (node u.job (u.place - 1)) v (is.ahead, left, enters)) (
      lt-ltb _ _ (omega (arith, longer, blocking_time c is))))

  longer_held : is_held_longer p u v ≡ true → IsBlockingArc p u v order_time × (nominal p u.job u.place < order_time)
  longer_held is =
      let (some, more) = and_parts _ _ is in
      let (behind, longer) = and_parts _ _ more in
      let (a, left, enters) = behind_stands p (machine_of p v.job v.place) (node u.job (u.place - 1)) v behind in
      let before : 0 < u.place = ltb-true _ _ some in (
        record { machine = machine_of p v.job v.place; ahead = a; step = u.place - 1; left = left; enters = enters; place = omega (arith, before); length = refl },
        ltb-true _ _ longer,
      )

  -- an arc to the next place of its job is the job's own, too
  pub next_arc : IsNext u v → HasArc p u v → IsJobArc p u v (nominal p u.job u.place)
  next_arc next (d, arc) = elim (arc_cases p u v d arc) [
    | inl is ↦ record { job = next.job; place = next.place; within = is.within; length = refl }
    | inr is ↦ record {
      job = next.job;
      place = next.place;
      within = subst (λ (j : ℕ). u.place < steps p j) (sym next.job) (omega (arith, next.place, is.enters.visits.within));
      length = refl;
    }
  ]

  -- the job's own, if none of the order is longer
  pub own_kind : IsNext u v → ((c : ℕ) → IsBlockingArc p u v c → c ≤ nominal p u.job u.place) → arc_kind p u v ≡ job_arc_kind p u
  own_kind next none =
      ap (λ yes. if yes then job_arc_kind p u else blocking_arc_kind p u v)
      (and_from _ _ (eq-eqb _ _ next.job) (and_from _ _ (eq-eqb _ _ next.place) (not_from_false _ (false_from_ne_true _ shorter))))
    where
      shorter : is_held_longer p u v ≡ true → ⊥
      shorter is = let (arc, longer) = longer_held is in absurd (omega (arith, longer, none order_time arc))

  -- the order's, if it is longer than the job's own
  pub blocking_kind : (c : ℕ) → IsBlockingArc p u v c → (IsNext u v → nominal p u.job u.place < c) → arc_kind p u v ≡ blocking_arc_kind p u v
  blocking_kind c is longer = ap (λ yes. if yes then job_arc_kind p u else blocking_arc_kind p u v) (false_from_ne_true _ other)
    where
      other : is_own p u v ≡ true → ⊥
      other own =
          let (job, more) = and_parts _ _ own in
          let (place, not_held) = and_parts _ _ more in
          both_ways _ (not-true _ not_held) (held_longer c is (longer (record { job = eqb-true _ _ job; place = eqb-true _ _ place })))

  -- whether v is the next place of u's job
  next_or_not : IsNext u v ⊎ (IsNext u v → ⊥)
  next_or_not = go (cases_eq u.job v.job) (cases_eq v.place (u.place + 1))
    where
      go : (u.job ≡ v.job) ⊎ (u.job ≡ v.job → ⊥) → (v.place ≡ u.place + 1) ⊎ (v.place ≡ u.place + 1 → ⊥) → IsNext u v ⊎ (IsNext u v → ⊥)
      go (inl job) (inl place) = inl (record { job = job; place = place })
      go (inr apart) _ = inr λ next. apart next.job
      go _ (inr apart) = inr λ next. apart next.place

  -- an arc to another node than the next one is the order's
  other_arc : (IsNext u v → ⊥) → HasArc p u v → (c : ℕ) × IsBlockingArc p u v c
  other_arc other (d, arc) = elim (arc_cases p u v d arc) [
    | inl is ↦ absurd (other (record { job = is.job; place = is.place }))
    | inr is ↦ (d, is)
  ]

  pub other_kind : (IsNext u v → ⊥) → HasArc p u v → arc_kind p u v ≡ blocking_arc_kind p u v
  other_kind other arc = let (c, is) = other_arc other arc in blocking_kind c is (λ next. absurd (other next))

  -- the arc that is shown is there, and none between the two nodes is longer
  pub kind_longest : HasArc p u v → IsLongestArc p u v (time_of (arc_kind p u v))
  kind_longest arc = go next_or_not
    where
      own_longest : IsNext u v → ((c : ℕ) → IsBlockingArc p u v c → c ≤ nominal p u.job u.place) → IsLongestArc p u v (nominal p u.job u.place)
      own_longest next none = record {
        arc = job_arc_is p u v (nominal p u.job u.place) (next_arc next arc);
        longest = λ e other. elim (arc_cases p u v e other) [
          | inl is ↦ omega (arith, is.length)
          | inr is ↦ none e is
        ];
      }

      held : (c : ℕ) → IsBlockingArc p u v c → (IsNext u v → nominal p u.job u.place < c) → IsLongestArc p u v (time_of (arc_kind p u v))
      held c is longer = subst (IsLongestArc p u v) (blocking_time c is ∙ ap time_of (sym (blocking_kind c is longer))) (record {
        arc = blocking_arc_is p u v c is;
        longest = λ e other. elim (arc_cases p u v e other) [
          | inl own ↦ omega (arith, own.length, longer (record { job = own.job; place = own.place }))
          | inr again ↦ omega (arith, blocking_time e again, blocking_time c is)
        ];
      })

      own : IsNext u v → ((c : ℕ) → IsBlockingArc p u v c → c ≤ nominal p u.job u.place) → IsLongestArc p u v (time_of (arc_kind p u v))
      own next none = subst (IsLongestArc p u v) (ap time_of (sym (own_kind next none))) (own_longest next none)

      by_test : IsNext u v → (b : Bool) → is_held_longer p u v ≡ b → IsLongestArc p u v (time_of (arc_kind p u v))
      by_test next true is = let (arc, longer) = longer_held is in held order_time arc (λ next. longer)
      by_test next false is = own next λ c blocked. elim (cases_lt (nominal p u.job u.place) c) [
        | inl longer ↦ absurd (both_ways _ is (held_longer c blocked longer))
        | inr short ↦ short
      ]

      go : IsNext u v ⊎ (IsNext u v → ⊥) → IsLongestArc p u v (time_of (arc_kind p u v))
      go (inl next) = by_test next (is_held_longer p u v) refl
      go (inr other) = let (c, is) = other_arc other arc in held c is (λ next. absurd (other next))

  -- so it takes the time of the longest arc
  pub longest_time : (d : ℕ) → IsLongestArc p u v d → time_of (arc_kind p u v) ≡ d
  longest_time d is = let shown = kind_longest (d, is.arc) in omega (arith, is.longest (time_of (arc_kind p u v)) shown.arc, shown.longest d is.arc)

  -- ---- what is looked up

  -- an arc of a job to its next place begins at a step of it
  pub next_within : IsNext u v → HasArc p u v → u.place < steps p u.job
  next_within next arc = (next_arc next arc).within

  -- the order's begins behind a step, and leads to one
  pub blocking_within : (c : ℕ) → IsBlockingArc p u v c → (0 < u.place) × (v.place < steps p v.job)
  blocking_within c is = (omega (arith, is.place), is.enters.visits.within)

  -- so does any other arc
  pub other_within : (IsNext u v → ⊥) → HasArc p u v → (0 < u.place) × (v.place < steps p v.job)
  other_within other arc = let (c, is) = other_arc other arc in blocking_within c is

  -- in a shop without recirculation the order has no arc between two places that follow each other
  pub never_blocked : IsWellShaped p → p.shop.recirculates ≡ false → IsNext u v → (c : ℕ) → IsBlockingArc p u v c → ⊥
  never_blocked shaped once next c is =
      (visits-sound p v.job v.place is.machine shaped is.enters.visits).first_visit once is.step (omega (arith, is.place, next.place))
      (ap (λ (j : ℕ). machine_of p j is.step) (sym next.job) ∙ is.left.visits.here ∙ sym is.enters.visits.here)
