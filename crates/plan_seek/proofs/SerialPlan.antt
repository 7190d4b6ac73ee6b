-- The serial plan is well shaped where its numbers are, and each machine takes its jobs in ascending order.
use Rattle.std.proofs.Common.{◌≡◌, ℕ, zero, suc, ◌+◌, ◌<◌, ◌≤◌, List, [], ◌∷◌, ◌++◌, Bool, true, false, cond, nat_eq, length, get_or, take, replicate, refl, sym, ap, ◌∙◌, subst, inl, inr, eqb-true, eq-eqb, arith}
use Rattle.std.specs.List.{range_with_len, count_by}
use Rattle.std.proofs.lemmas.Bool.{cases_lt, cases_eq, ne_eqb}
use Rattle.std.proofs.lemmas.List.{get_or_past}
use Rattle.std.proofs.lemmas.List.FromFn.{length-map-range_with_len, get_or-map-range_with_len}
use Rattle.std.proofs.lemmas.List.Sums.{count_by_more_yes, count_by_more_no}
use Rattle.std.proofs.Math.Seq.{take-length}
use Rattle.shop_base.specs.declared.shop.Step.{Step}
use Rattle.shop_base.specs.Shop.{IsShop, no_step, step_at, route_at}
use Rattle.shop_base.specs.Plan.{PlannedShop, route, machine_of, order, job_at, count_below, visits_before, HasCounts, IsWithinLimits, IsOrder, IsWellShaped}
use Rattle.shop_base.specs.Graph.{IsSerial}
use Rattle.shop_base.specs.ShapeFault.{visit_count, place_count}
use Rattle.shop_base.proofs.{Counting.{count_passed, count_failed, count_rises}, Orders.order_from_places}
use Rattle.plan_seek.specs.Orders.{visits_in, visits_of, visitors, serial_order}
use Rattle.plan_seek.specs.Tasks.{PlanTask, serial_plan}

module _ (p : PlannedShop) (j m : ℕ) where
  on_machine : ℕ → Bool
  on_machine i = nat_eq (machine_of p j i) m

  one_step : (n : ℕ) → n < length (route p j) → (b : Bool) → nat_eq (machine_of p j n) m ≡ b → visits_in (take n (route p j)) m ≡ visits_before p j m n
      → visits_in (take (n + 1) (route p j)) m ≡ visits_before p j m (suc n)
  one_step n within true is so_far =
      omega (arith, count_by_more_yes (λ (step : Step). nat_eq step.machine m) (route p j) n no_step within is, count_passed (λ (i : ℕ). nat_eq (machine_of p j i) m) n is, so_far)
  one_step n within false is so_far =
      omega (arith, count_by_more_no (λ (step : Step). nat_eq step.machine m) (route p j) n no_step within is, count_failed (λ (i : ℕ). nat_eq (machine_of p j i) m) n is, so_far)

  first_steps : (n : ℕ) → n ≤ length (route p j) → visits_in (take n (route p j)) m ≡ visits_before p j m n
  first_steps zero within = refl
  first_steps (suc n) within =
      let longer : suc n ≡ n + 1 = omega arith in
      ap (λ i. visits_in (take i (route p j)) m) longer ∙ one_step n (omega arith) (nat_eq (machine_of p j n) m) refl (first_steps n (omega arith))

  -- a route comes to the machine as often as its job visits it
  visits_counted : visits_in (route p j) m ≡ visit_count p m j
  visits_counted = ap (λ r. visits_in r m) (sym (take-length (route p j))) ∙ first_steps (length (route p j)) (omega arith)

-- how often the number stands in the list
abbrev times_in : List ℕ → ℕ → ℕ
times_in xs j = count_below (λ a. nat_eq (get_or xs a 0) j) (length xs)

-- the first test counts apart from those behind it
count_front : (f : ℕ → Bool) (n : ℕ) → count_below f (suc n) ≡ cond (f 0) 1 0 + count_below (λ i. f (suc i)) n
count_front f zero = omega arith
count_front f (suc n) = omega (arith, count_front f n)

times_own : (n j : ℕ) (xs : List ℕ) → times_in (replicate n j ++ xs) j ≡ n + times_in xs j
times_own zero j xs = omega arith
times_own (suc n) j xs =
    let one : cond (nat_eq j j) 1 0 ≡ 1 = ap {B = ℕ} (λ (b : Bool). cond b 1 0) (eq-eqb j j refl) in
    omega (arith, count_front (λ a. nat_eq (get_or (j ∷ replicate n j ++ xs) a 0) j) (length (replicate n j ++ xs)), one, times_own n j xs)

times_other : (n i j : ℕ) (xs : List ℕ) → (i ≡ j → ⊥) → times_in (replicate n i ++ xs) j ≡ times_in xs j
times_other zero i j xs apart = refl
times_other (suc n) i j xs apart =
    let none : cond (nat_eq i j) 1 0 ≡ 0 = ap {B = ℕ} (λ (b : Bool). cond b 1 0) (ne_eqb i j apart) in
    omega (arith, count_front (λ a. nat_eq (get_or (i ∷ replicate n i ++ xs) a 0) j) (length (replicate n i ++ xs)), none, times_other n i j xs apart)

-- the list ascends from this number on
abbrev IsRising : ℕ → List ℕ → Type 0
IsRising low [] = Unit {0}
IsRising low (x ∷ xs) = (low ≤ x) × IsRising x xs

rising_from : (low high : ℕ) (xs : List ℕ) → low ≤ high → IsRising high xs → IsRising low xs
rising_from low high [] below rises = tt
rising_from low high (x ∷ xs) below rises = (omega (arith, rises.0), rises.1)

rising_behind : (n j : ℕ) (xs : List ℕ) → IsRising j xs → IsRising j (replicate n j ++ xs)
rising_behind zero j xs rises = rises
rising_behind (suc n) j xs rises = (omega arith, rising_behind n j xs rises)

rising_at : (low a : ℕ) (xs : List ℕ) → IsRising low xs → a + 1 < length xs → get_or xs a 0 ≤ get_or xs (a + 1) 0
rising_at low a [] rises within = absurd (omega arith)
rising_at low zero (x ∷ []) rises within = absurd (omega arith)
rising_at low zero (x ∷ y ∷ ys) rises within = rises.1.0
rising_at low (suc a) (x ∷ xs) rises within =
    let next : suc (a + 1) ≡ suc a + 1 = omega arith in
    subst (λ b. get_or (x ∷ xs) (suc a) 0 ≤ get_or (x ∷ xs) b 0) next (rising_at x a xs rises.1 (omega (arith, within)))

module _ (t : PlanTask) (m : ℕ) where
  -- the visits to machine m of n jobs from job a on
  abbrev row : ℕ → ℕ → List ℕ
  row a n = visitors t.shop (range_with_len a n) m

  row_rises : (a n : ℕ) → IsRising a (row a n)
  row_rises a zero = tt
  row_rises a (suc n) = rising_behind (visits_in (route_at t.shop.routes a) m) a (row (a + 1) n) (rising_from a (a + 1) (row (a + 1) n) (omega arith) (row_rises (a + 1) n))

  -- another job doesn't stand in the row
  row_without : (a n j : ℕ) → ((i : ℕ) → a ≤ i → i < a + n → i ≡ j → ⊥) → times_in (row a n) j ≡ 0
  row_without a zero j others = refl
  row_without a (suc n) j others =
      times_other (visits_in (route_at t.shop.routes a) m) a j (row (a + 1) n) (others a (omega arith) (omega arith))
      ∙ row_without (a + 1) n j (λ i from below. others i (omega arith) (omega arith))

  -- a job of it stands there as often as its route comes to the machine
  row_with : (a n j : ℕ) → a ≤ j → j < a + n → times_in (row a n) j ≡ visits_in (route_at t.shop.routes j) m
  row_with a zero j from below = absurd (omega arith)
  row_with a (suc n) j from below = elim (cases_eq a j) [
    | inl same ↦ subst (λ i. times_in (visits_of t.shop a m ++ row (a + 1) n) i ≡ visits_in (route_at t.shop.routes i) m) same
        (omega (arith, times_own (visits_in (route_at t.shop.routes a) m) a (row (a + 1) n), row_without (a + 1) n a (λ i above less is. omega arith)))
    | inr apart ↦ times_other (visits_in (route_at t.shop.routes a) m) a j (row (a + 1) n) apart ∙ row_with (a + 1) n j (omega (arith, apart)) (omega arith)
  ]

  abbrev all_jobs : List ℕ
  all_jobs = row 0 (length t.shop.routes)

  order_is : m < t.shop.machines → order (serial_plan t) m ≡ all_jobs
  order_is inside = get_or-map-range_with_len (visitors t.shop (range_with_len 0 (length t.shop.routes))) 0 t.shop.machines m m [] inside (omega arith)

  -- each job of the shop stands in its order as often as it visits the machine
  placed : (j : ℕ) → m < t.shop.machines → j < length t.shop.routes → place_count (serial_plan t) m j ≡ visit_count (serial_plan t) m j
  placed j inside less =
      ap (λ (o : List ℕ). times_in o j) (order_is inside) ∙ row_with 0 (length t.shop.routes) j (omega arith) (omega arith) ∙ visits_counted (serial_plan t) j m

  serial-orders : m < t.shop.machines → IsOrder (serial_plan t) m
  serial-orders inside = order_from_places (serial_plan t) m
      (λ a within. (let
      j : ℕ = job_at (serial_plan t) m a in
      let counts = count_rises (λ (b : ℕ). nat_eq (job_at (serial_plan t) m b) j) a (length (order (serial_plan t) m)) (eq-eqb j j refl) within in
      elim (cases_lt j (length t.shop.routes)) [
        | inl less ↦ omega (arith, counts, placed j inside less)
        | inr past ↦ absurd (omega (arith, counts, ap (λ (o : List ℕ). times_in o j) (order_is inside), row_without 0 (length t.shop.routes) j (λ i from below is. omega (arith, is, past))))
      ]))
      (λ j less. omega (arith, placed j inside less))

module _ (t : PlanTask) where
  -- there is one order for each machine
  pub serial_count : length (serial_order t.shop) ≡ t.shop.machines
  serial_count = length-map-range_with_len (visitors t.shop (range_with_len 0 (length t.shop.routes))) 0 t.shop.machines

  pub serial-rises : IsSerial (serial_plan t)
  serial-rises m a within = elim (cases_lt m t.shop.machines) [
    | inl inside ↦ subst (λ (o : List ℕ). get_or o a 0 ≤ get_or o (a + 1) 0) (sym (order_is t m inside))
        (rising_at 0 a (all_jobs t m) (row_rises t m 0 (length t.shop.routes)) (subst (λ (o : List ℕ). a + 1 < length o) (order_is t m inside) within))
    | inr past ↦ absurd (omega (arith, ap length (get_or_past (serial_order t.shop) m [] (omega (arith, serial_count))), within))
  ]

  pub serial-shaped : IsShop t.shop → HasCounts (serial_plan t) → IsWithinLimits (serial_plan t) → IsWellShaped (serial_plan t)
  serial-shaped shop counts limits = record { shop = shop; counts = counts; limits = limits; orders = serial-orders t }
