-- The order of a machine, from its places and from the jobs that visit it.
use Rattle.std.proofs.Common.{◌≡◌, ℕ, ◌<◌, ◌≤◌, length, sym, refl, inl, inr, eq-eqb, eqb-true, nat_eq, arith}
use Rattle.std.proofs.lemmas.Bool.{cases_lt}
use Rattle.shop_base.specs.Plan.{PlannedShop, jobs, steps, machine_of, order, job_at, visits_before, places_before, Visits, Stands, IsOrder}
use Rattle.shop_base.specs.ShapeFault.{IsVisitor, IsGoodPlace, visit_count, place_count}
use Rattle.shop_base.proofs.Visits.{visits_job}
use Rattle.shop_base.proofs.Counting.{count_found, count_rises}

module _ (p : PlannedShop) (m : ℕ) where
  -- a good place is for a visit
  pub place-stands : (a : ℕ) → a < length (order p m) → IsGoodPlace p m a → (k : ℕ) × Stands p m a (job_at p m a) k
  place-stands a within good =
      let found = count_found (λ (i : ℕ). nat_eq (machine_of p (job_at p m a) i) m) (steps p (job_at p m a)) (places_before p m (job_at p m a) a) good in
      (found.0, record { within = within; job = refl; visits = record { within = found.1; here = eqb-true (machine_of p (job_at p m a) found.0) m found.2 }; turn = sym found.3 })

  visits_more : (j k : ℕ) → Visits p j k m → visits_before p j m k < visit_count p m j
  visits_more j k visits = count_rises (λ (i : ℕ). nat_eq (machine_of p j i) m) k (steps p j) (eq-eqb (machine_of p j k) m visits.here) visits.within

  -- a job visits the machine where it has a visit
  pub some_visitor : (j : ℕ) → 0 < visit_count p m j → IsVisitor p m j
  some_visitor j some =
      let found = count_found (λ (i : ℕ). nat_eq (machine_of p j i) m) (steps p j) 0 some in
      (found.0, record { within = found.1; here = eqb-true (machine_of p j found.0) m found.2 })

  pub no_visitor : (j : ℕ) → visit_count p m j ≡ 0 → IsVisitor p m j → ⊥
  no_visitor j none visitor = omega (arith, none, visits_more j visitor.0 visitor.1)

  -- a place that is for a visit is good
  pub stands-place : (a k : ℕ) → Stands p m a (job_at p m a) k → IsGoodPlace p m a
  stands-place a k stands = omega (arith, stands.turn, visits_more (job_at p m a) k stands.visits)

  -- each visit has its place where no job is missing
  visit-stands : (j k : ℕ) → visit_count p m j ≤ place_count p m j → Visits p j k m → (a : ℕ) × Stands p m a j k
  visit-stands j k enough visits =
      let found = count_found (λ (b : ℕ). nat_eq (job_at p m b) j) (length (order p m)) (visits_before p j m k) (omega (arith, enough, visits_more j k visits)) in
      (found.0, record { within = found.1; job = eqb-true (job_at p m found.0) j found.2; visits = visits; turn = found.3 })

  -- in a sound order no job is missing
  pub none_missing : (j : ℕ) → IsOrder p m → visit_count p m j ≤ place_count p m j
  none_missing j sound = elim (cases_lt (place_count p m j) (visit_count p m j)) [
    | inl less ↦ absurd (
        let found = count_found (λ (i : ℕ). nat_eq (machine_of p j i) m) (steps p j) (place_count p m j) less in
        let at = sound.complete j found.0 (record { within = found.1; here = eqb-true (machine_of p j found.0) m found.2 }) in
        omega (arith, at.1.turn, found.3, count_rises (λ (b : ℕ). nat_eq (job_at p m b) j) at.0 (length (order p m)) (eq-eqb (job_at p m at.0) j at.1.job) at.1.within))
    | inr enough ↦ enough
  ]

  -- an order whose places are good, and from which no visitor is missing
  pub order_from_places : ((a : ℕ) → a < length (order p m) → IsGoodPlace p m a)
      → ((j : ℕ) → j < jobs p → visit_count p m j ≤ place_count p m j)
      → IsOrder p m
  order_from_places good enough = record {
    on_route = λ a within. place-stands a within (good a within);
    complete = λ j k visits. visit-stands j k (enough j (visits_job p j k m visits)) visits;
  }
