-- The lookups, filled row by row.
use Rattle.std.proofs.Common.{◌≡◌, ◌≢◌, ℕ, suc, ◌+◌, ◌*◌, ◌<◌, ◌≤◌, ◌++◌, ◌∷◌, [], List, length, get_or, set, Bool, true, false, nat_eq, arith, refl, sym, ap, ◌∙◌, subst, eq-eqb, get_or-set_same, get_or-set_other, inl, inr}
use Rattle.std.proofs.lemmas.Bool.{cases_order, cases_eq, ne_eqb}
use Rattle.std.proofs.lemmas.List.{get_or_append_left, get_or_push, get_or_read, length_push}
use Rattle.shop_base.specs.declared.node.Node.{Node}
use Rattle.shop_base.specs.declared.limits.TheConstants.{MAX_MACHINES}
use Rattle.shop_base.specs.Plan.{PlannedShop, count_below, jobs, machines, steps, machine_of, order, job_at, visits_before, places_before, Visits, Stands, IsWellShaped}
use Rattle.shop_base.specs.Graph.{node, IsNode}
use Rattle.alt_graph.specs.Layout.{number_of}
use Rattle.alt_graph.specs.Places.{node_at}
use Rattle.alt_graph.specs.Lookups.{AreFirsts, IsGap, IsVisitAt, AreVisitsOf}
use Rattle.alt_graph.specs.Placing.{AreTables, AreLinked, IsNext, slot_of}
use Rattle.shop_base.proofs.Counting.{count_apart, count_rises, count_passed, count_failed}
use Rattle.shop_base.proofs.Visits.{visits_job, visits_machine, stands_once}
use Rattle.shop_base.proofs.Places.{same_stand}
use Rattle.shop_base.proofs.Sizes.{steps_few, place_job}
use Rattle.alt_graph.proofs.NodeNumbers.{number_inside, number_same}

-- ---- the numbers of the first nodes

-- the numbers of the first nodes of the first n jobs, and next the number after them
pub record AreFirstsBelow (p : PlannedShop) (firsts : List ℕ) (n next : ℕ) : Type 0 where
  pub size : length firsts ≡ n + 1
  pub begins : get_or firsts 0 0 ≡ 0
  pub follows : (j : ℕ) → j < n → get_or firsts (j + 1) 0 ≡ get_or firsts j 0 + (steps p j + 1)
  pub last : get_or firsts n 0 ≡ next
  pub few : next ≤ n * (MAX_MACHINES + 1)

module _ (p : PlannedShop) (firsts : List ℕ) (n next : ℕ) (below : AreFirstsBelow p firsts n next) where
  earlier : (y j : ℕ) → j < n + 1 → get_or (firsts ++ y ∷ []) j 0 ≡ get_or firsts j 0
  earlier y j lt = get_or_append_left firsts (y ∷ []) 0 j (omega (arith, below.size))

  pub firsts_more : IsWellShaped p → n < jobs p → AreFirstsBelow p (firsts ++ (next + (steps p n + 1)) ∷ []) (n + 1) (next + (steps p n + 1))
  firsts_more shaped inside =
      let new = next + (steps p n + 1) in
      let at : get_or (firsts ++ new ∷ []) (n + 1) 0 ≡ new = get_or_push firsts new 0 (n + 1) below.size in
      record {
        size = omega (arith, length_push firsts new, below.size);
        begins = earlier new 0 (omega arith) ∙ below.begins;
        follows = λ j lt. elim (cases_order j n) [
          | inl same ↦ rw same (at ∙ ap (λ k. k + (steps p n + 1)) (sym (earlier new n (omega arith) ∙ below.last)))
          | inr other ↦ (let lower : j < n = elim other [ inl l ↦ omega arith | inr g ↦ omega arith ] in
              earlier new (j + 1) (omega arith) ∙ below.follows j lower ∙ ap (λ k. k + (steps p j + 1)) (sym (earlier new j (omega arith))))
        ];
        last = at;
        few = omega (arith, below.few, steps_few p shaped n inside);
      }

  pub firsts_all : IsWellShaped p → n ≡ jobs p → AreFirsts p firsts
  firsts_all shaped all = record {
    size = below.size ∙ ap (λ k. k + 1) all;
    begins = below.begins;
    follows = λ j lt. below.follows j (omega arith);
    few = omega (arith, ap (λ j. get_or firsts j 0) all, below.last, below.few, shaped.shop.counts.few_jobs);
  }

-- ---- the visits

-- a count of one number more
counted : (f : ℕ → Bool) (n : ℕ) → f n ≡ true → count_below f (n + 1) ≡ count_below f n + 1
counted f n passed = let next : n + 1 ≡ suc n = omega arith in rw next (count_passed f n passed)

passed_over : (f : ℕ → Bool) (n : ℕ) → f n ≡ false → count_below f (n + 1) ≡ count_below f n
passed_over f n failed = let next : n + 1 ≡ suc n = omega arith in rw next (count_failed f n failed)

-- each visit is a node
visit_node : (p : PlannedShop) (j k m : ℕ) → Visits p j k m → IsNode p (node j k)
visit_node p j k m visits = record { job = visits_job p j k m visits; place = omega (arith, visits.within) }

-- no visit is behind the last step of a route
pub none_next : (p : PlannedShop) (next : List ℕ) (m j : ℕ) → IsNext p next m j (visits_before p j m (steps p j))
none_next p next m j k visits turn =
    absurd (omega (arith, turn, count_rises (λ (i : ℕ). nat_eq (machine_of p j i) m) k (steps p j) (eq-eqb (machine_of p j k) m visits.here) visits.within))

-- a row of a table is written
module _ (p : PlannedShop) (firsts table : List ℕ) (numbers : AreFirsts p firsts) (size : length table ≡ get_or firsts (jobs p) 0) (j l m x : ℕ) (visits : Visits p j l m) where
  pub row_inside : number_of firsts (node j l) < length table
  row_inside = omega (arith, size, number_inside p firsts numbers (node j l) (visit_node p j l m visits))

  row_same : get_or (set table (number_of firsts (node j l)) x) (number_of firsts (node j l)) 0 ≡ x
  row_same = get_or-set_same table (number_of firsts (node j l)) x 0 row_inside

  row_other : (i k n : ℕ) → Visits p i k n → (i ≡ j → k ≡ l → ⊥) → get_or (set table (number_of firsts (node j l)) x) (number_of firsts (node i k)) 0 ≡ get_or table (number_of firsts (node i k)) 0
  row_other i k n other apart =
      get_or-set_other table (number_of firsts (node j l)) (number_of firsts (node i k)) x 0
      (λ same. (let is = number_same p firsts numbers (node i k) (node j l) (visit_node p i k n other) (visit_node p j l m visits) same in
      apart (ap (λ (v : Node). v.job) is) (ap (λ (v : Node). v.place) is)))

  pub linked_still : (i s : ℕ) → i ≢ j → AreLinked p firsts table i s → AreLinked p firsts (set table (number_of firsts (node j l)) x) i s
  linked_still i s apart linked n k b from one other turn = row_other i k n one (λ same _. apart same) ∙ linked n k b from one other turn

module _ (p : PlannedShop) (firsts places behind next : List ℕ) (tables : AreTables p firsts places behind next) where
  pub slot_inside : (m j : ℕ) → m < machines p → j < jobs p → slot_of m j < length next
  slot_inside m j machine job = omega (arith, tables.slots, tables.shaped.shop.counts.few_jobs)

  -- the visit at a place of an order, by the table
  module _ (m a slot : ℕ) (list : List ℕ) (is : list ≡ order p m) (machine : m < machines p) (within : a < length list) (at_slot : slot ≡ slot_of m (get_or list a 0)) where
    inside : a < length (order p m)
    inside = omega (arith, within, ap length is)

    here : get_or list a 0 ≡ job_at p m a
    here = ap (λ xs. get_or xs a 0) is

    pub slot_here : slot < length next
    slot_here = omega (arith, at_slot, slot_inside m (get_or list a 0) machine (omega (arith, here, place_job p tables.shaped m a machine inside)))

    pub stands_here : (k : ℕ) → k ≡ get_or next slot k → ((j : ℕ) → IsNext p next m j (places_before p m j a)) → Stands p m a (get_or list a 0) k
    stands_here k read ahead =
        let j = get_or list a 0 in
        let (l, found) = (tables.shaped.orders m machine).on_route a inside in
        let stands : Stands p m a j l = subst (λ i. Stands p m a i l) (sym here) found in
        let step : k ≡ l = get_or_read next slot k slot_here read 0 ∙ ap (λ i. get_or next i 0) at_slot ∙ ahead j l stands.visits (sym stands.turn) in
        rw step stands

  -- the slot of a visit's job and machine is written
  module _ (j l m : ℕ) (visits : Visits p j l m) where
    same_turn : (k : ℕ) → Visits p j k m → visits_before p j m k ≡ visits_before p j m l → k ≡ l
    same_turn k other turn = count_apart (λ (i : ℕ). nat_eq (machine_of p j i) m) k l (eq-eqb (machine_of p j k) m other.here) (eq-eqb (machine_of p j l) m visits.here) turn

    slot_same : (y : ℕ) → get_or (set next (slot_of m j) y) (slot_of m j) 0 ≡ y
    slot_same y = get_or-set_same next (slot_of m j) y 0 (slot_inside m j (visits_machine p j l m tables.shaped visits) (visits_job p j l m visits))

    pub next_still : (y n i c : ℕ) → (n ≡ m → i ≡ j → ⊥) → IsNext p next n i c → IsNext p (set next (slot_of m j) y) n i c
    next_still y n i c apart is k other turn =
        get_or-set_other next (slot_of m j) (slot_of n i) y 0
        (λ same. (let few = tables.shaped.shop.counts.few_jobs in
        let job = visits_job p j l m visits in
        let more = visits_job p i k n other in
        let machines_same : n ≡ m = omega arith in
        let jobs_same : i ≡ j = omega arith in
        apart machines_same jobs_same)) ∙ is k other turn

    -- a step before those that are noted
    module _ (linked : AreLinked p firsts behind j (l + 1)) (ahead : (n : ℕ) → IsNext p next n j (visits_before p j n (l + 1))) where
      one_more : visits_before p j m (l + 1) ≡ visits_before p j m l + 1
      one_more = counted (λ (i : ℕ). nat_eq (machine_of p j i) m) l (eq-eqb (machine_of p j l) m visits.here)

      pub route_linked : AreLinked p firsts (set behind (number_of firsts (node j l)) (get_or next (slot_of m j) 0)) j l
      route_linked n k b from one other turn = elim (cases_eq k l) [
        | inl same ↦ (
            let machines_same : n ≡ m = sym one.here ∙ ap (machine_of p j) same ∙ visits.here in
            let mine : Visits p j b m = rw machines_same at other in
            let here : visits_before p j m b ≡ visits_before p j m (l + 1) = rw (machines_same, same) at turn ∙ sym one_more in
            rw same (row_same p firsts behind tables.numbers tables.links j l m (get_or next (slot_of m j) 0) visits ∙ ahead m b mine here))
        | inr apart ↦ row_other p firsts behind tables.numbers tables.links j l m (get_or next (slot_of m j) 0) visits j k n one (λ _ same. apart same)
            ∙ linked n k b (omega (arith, from, apart)) one other turn
      ]

      pub route_next : (n : ℕ) → IsNext p (set next (slot_of m j) l) n j (visits_before p j n l)
      route_next n = elim (cases_eq n m) [
        | inl same ↦ rw same (λ k other turn. slot_same l ∙ sym (same_turn k other turn))
        | inr apart ↦ (
            let as_many : visits_before p j n (l + 1) ≡ visits_before p j n l = passed_over (λ (i : ℕ). nat_eq (machine_of p j i) n) l (ne_eqb (machine_of p j l) n (λ same. apart (sym same ∙ visits.here))) in
            rw as_many at (next_still l n j (visits_before p j n (l + 1)) (λ same _. apart same) (ahead n)))
      ]

    -- a place more of an order
    pub order_next : (a : ℕ) → Stands p m a j l → AreLinked p firsts behind j 0 → ((i : ℕ) → IsNext p next m i (places_before p m i a))
        → (i : ℕ) → IsNext p (set next (slot_of m j) (get_or behind (number_of firsts (node j l)) 0)) m i (places_before p m i (a + 1))
    order_next a stands linked ahead i = elim (cases_eq i j) [
      | inl same ↦ rw same (λ k other turn. (
          let one_taken : places_before p m j (a + 1) ≡ places_before p m j a + 1 = counted (λ (b : ℕ). nat_eq (job_at p m b) j) a (eq-eqb (job_at p m a) j stands.job) in
          slot_same (get_or behind (number_of firsts (node j l)) 0) ∙ linked m l k (omega arith) visits other (omega (arith, turn, one_taken, stands.turn))))
      | inr apart ↦ (
          let as_many : places_before p m i (a + 1) ≡ places_before p m i a = passed_over (λ (b : ℕ). nat_eq (job_at p m b) i) a (ne_eqb (job_at p m a) i (λ same. apart (sym same ∙ stands.job))) in
          rw as_many (next_still (get_or behind (number_of firsts (node j l)) 0) m i (places_before p m i a) (λ _ same. apart same) (ahead i)))
    ]

    -- the visit finds its place, and others theirs
    pub found_new : (a x : ℕ) → Stands p m a j l → (i k : ℕ) → Stands p m a i k → get_or (set places (number_of firsts (node j l)) x) (number_of firsts (node i k)) 0 ≡ x
    found_new a x mine i k stands =
        let same = same_stand p m a a i k j l tables.shaped refl stands mine in
        rw (same.0, same.1) (row_same p firsts places tables.numbers tables.rows j l m x visits)

    pub found_still : (a x n b i k : ℕ) → (n ≡ m → b ≡ a → ⊥) → Stands p m a j l → Stands p n b i k
        → get_or (set places (number_of firsts (node j l)) x) (number_of firsts (node i k)) 0 ≡ get_or places (number_of firsts (node i k)) 0
    found_still a x n b i k apart mine stands = row_other p firsts places tables.numbers tables.rows j l m x visits i k n stands.visits here
      where
        here : i ≡ j → k ≡ l → ⊥
        here js ks =
            let machines_same : n ≡ m = sym stands.visits.here ∙ rw (js, ks) visits.here in
            let other : Stands p m b j l = rw (machines_same, js, ks) at stands in
            apart machines_same (stands_once p m b a j l other mine)

-- ---- the list of the visits

module _ (visits : List Node) (v : Node) where
  still : (i : ℕ) → i < length visits → node_at (visits ++ v ∷ []) i ≡ node_at visits i
  still i within = get_or_append_left visits (v ∷ []) (node 0 0) i within

  pub gap_still : (i : ℕ) → i < length visits → IsGap visits i → IsGap (visits ++ v ∷ []) i
  gap_still i within gap = rw (still i within) gap

  pub visit_still : (p : PlannedShop) (m a i : ℕ) → i < length visits → IsVisitAt p m a visits i → IsVisitAt p m a (visits ++ v ∷ []) i
  visit_still p m a i within stands = rw (still i within) stands

  -- a machine's visits stay where they are, as long as they find their places
  pub visits_still : (p : PlannedShop) (firsts places more : List ℕ) (m gap : ℕ) → AreVisitsOf p firsts visits places m gap
      → ((a j k : ℕ) → Stands p m a j k → get_or more (number_of firsts (node j k)) 0 ≡ get_or places (number_of firsts (node j k)) 0)
      → AreVisitsOf p firsts (visits ++ v ∷ []) more m gap
  visits_still p firsts places more m gap are same = record {
    ahead = gap_still gap (omega (arith, are.within)) are.ahead;
    stand = λ a within. visit_still p m a (gap + (a + 1)) (omega (arith, are.within, within)) (are.stand a within);
    behind = gap_still (gap + (length (order p m) + 1)) are.within are.behind;
    within = omega (arith, are.within, length_push visits v);
    found = λ a j k stands. same a j k stands ∙ are.found a j k stands;
  }
