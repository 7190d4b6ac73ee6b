-- How many cleanings a plan within the limits can ask for.
use Rattle.std.proofs.Common.{nat_eq, eq-eqb, ne_eqb, eqb-true, refl, subst, inl, inr, ◌+◌, ◌≡◌, ℕ, zero, suc, ◌*◌, ◌<◌, ◌≤◌, length, arith, sym, true, false, Bool}
use Rattle.std.specs.Prelude.{nat_lt, if◌then◌else◌}
use Rattle.std.proofs.lemmas.Bool.{cases_lt}
use Rattle.shop_base.specs.declared.limits.TheConstants.{MAX_JOBS, MAX_MACHINES}
use Rattle.shop_base.specs.Plan.{PlannedShop, jobs, machines, steps, machine_of, order, job_at, clean, count_below, Stands, IsOrder, IsWellShaped}
use Rattle.shop_base.specs.ShapeFault.{visit_count, place_count}
use Rattle.shop_base.proofs.Counting.{count_found, count_passed, count_failed, count_rises, count_within}
use Rattle.shop_base.proofs.Sums.{sum_below_but}
use Rattle.shop_base.specs.Ends.{sum_below, cleanings_of}
use Rattle.shop_base.proofs.Visits.{visits_job}

-- a sum of numbers that are within a bound
pub sum_below-le : (f : ℕ → ℕ) (bound n : ℕ) → ((k : ℕ) → k < n → f k ≤ bound) → sum_below f n ≤ n * bound
sum_below-le f bound zero each = omega arith
sum_below-le f bound (suc n) each = omega (arith, sum_below-le f bound n (λ k lt. each k (omega arith)), each n (omega arith))

-- numbers below a bound, each counted once, are as many as their counts together
counted_all : (number : ℕ → ℕ) (bound n : ℕ) → ((a : ℕ) → a < n → number a < bound) → n ≤ sum_below (λ j. count_below (λ a. nat_eq (number a) j) n) bound
counted_all number bound zero inside = omega arith
counted_all number bound (suc n) inside =
    let before : n ≤ sum_below (λ j. count_below (λ a. nat_eq (number a) j) n) bound = counted_all number bound n (λ a lt. inside a (omega arith)) in
    let f : ℕ → ℕ = λ j. count_below (λ a. nat_eq (number a) j) (suc n) in
    let g : ℕ → ℕ = λ j. count_below (λ a. nat_eq (number a) j) n in
    let one : f (number n) ≡ g (number n) + 1 = count_passed (λ (a : ℕ). nat_eq (number a) (number n)) n (eq-eqb (number n) (number n) refl) in
    let sums : sum_below f bound + g (number n) ≡ sum_below g bound + f (number n) =
    sum_below_but f g bound (number n) (inside n (omega arith)) (λ i below other. count_failed (λ (a : ℕ). nat_eq (number a) i) n (ne_eqb (number n) i (λ is. other (sym is)))) in
    omega (arith, before, one, sums)

module _ (p : PlannedShop) (m : ℕ) (shaped : IsWellShaped p) (sound : IsOrder p m) where
  inside : (a : ℕ) → a < length (order p m) → job_at p m a < jobs p
  inside a within = let found = sound.on_route a within in visits_job p (job_at p m a) found.0 m found.1.visits

  -- an order has each job no more often than its route has steps
  few_places : (j : ℕ) → j < jobs p → place_count p m j ≤ MAX_MACHINES
  few_places j within = elim (cases_lt (visit_count p m j) (place_count p m j)) [
    | inl more ↦ absurd (
        let found = count_found (λ (b : ℕ). nat_eq (job_at p m b) j) (length (order p m)) (visit_count p m j) more in
        let at = sound.on_route found.0 found.1 in
        let is : job_at p m found.0 ≡ j = eqb-true (job_at p m found.0) j found.2 in
        let mine : Stands p m found.0 j at.0 = subst (λ x. Stands p m found.0 x at.0) is at.1 in
        omega (arith, mine.turn, found.3, count_rises (λ (i : ℕ). nat_eq (machine_of p j i) m) at.0 (steps p j) (eq-eqb (machine_of p j at.0) m mine.visits.here) mine.visits.within))
    | inr few ↦ omega (arith, few, count_within (λ (i : ℕ). nat_eq (machine_of p j i) m) (steps p j), (shaped.shop.routes j within).few_steps)
  ]

  pub order_length : length (order p m) ≤ jobs p * MAX_MACHINES
  order_length =
      omega (arith, counted_all (job_at p m) (jobs p) (length (order p m)) inside, sum_below-le (place_count p m) MAX_MACHINES (jobs p) few_places)

  pub cleanings_of-le : cleanings_of p m ≤ jobs p * MAX_MACHINES
  cleanings_of-le = part (nat_lt 0 (clean p m))
    where
      part : (b : Bool) → (if b then length (order p m) else 0) ≤ jobs p * MAX_MACHINES
      part true = order_length
      part false = omega arith

-- the cleanings of the machines below one of the shop's
pub cleanings-le : (p : PlannedShop) (n : ℕ) → IsWellShaped p → n ≤ machines p → sum_below (cleanings_of p) n ≤ MAX_MACHINES * (MAX_JOBS * MAX_MACHINES)
cleanings-le p n shaped within =
    let each = λ (m : ℕ) (lt : m < n). cleanings_of-le p m shaped (shaped.orders m (omega arith)) in
    let few = shaped.shop.counts in
    let total = sum_below-le (cleanings_of p) (MAX_JOBS * MAX_MACHINES) n (λ m lt. let le = each m lt in omega (arith, few.few_jobs)) in
    omega (arith, few.few_machines)
