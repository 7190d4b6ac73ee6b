-- Sums over the visits to a machine that have the first places of its order.
use Rattle.std.proofs.Common.{◌≡◌, ◌≢◌, ℕ, ◌+◌, ◌<◌, ◌≤◌, inl, inr, length, arith, ap, sym, refl, ◌∙◌, add-one, nat_eq, eq-eqb, ne_eqb, lt-ltb, le-ltb}
use Rattle.std.specs.Prelude.{if◌then◌else◌, ◌==◌, nat_lt}
use Rattle.std.proofs.lemmas.Bool.{cases_lt, cases_eq}
use Rattle.shop_base.specs.declared.shop.Step.{Step}
use Rattle.shop_base.specs.Shop.{step_at}
use Rattle.shop_base.specs.Ends.{sum_below}
use Rattle.shop_base.specs.Plan.{PlannedShop, jobs, route, steps, machine_of, order, job_at, visits_before, places_before, Visits, Stands, IsOrder}
use Rattle.shop_base.proofs.Counting.{count_passed, count_failed, count_rises, count_apart}
use Rattle.shop_base.proofs.Sums.{sum_below_but, sum_below_same, sum_below_zero}
use Rattle.shop_base.proofs.Visits.{visits_job}
use Rattle.plan_bounds.specs.Bounds.{sum_on}

module _ (p : PlannedShop) (m : ℕ) (f : Step → ℕ) where
  -- what f gives of step k of job j, where it is one of its first c visits to the machine
  abbrev visit_value : ℕ → ℕ → ℕ → ℕ
  visit_value j c k = if machine_of p j k == m then (if nat_lt (visits_before p j m k) c then f (step_at (route p j) k) else 0) else 0

  -- of these visits together
  abbrev first_visits : ℕ → ℕ → ℕ
  first_visits j c = sum_below (visit_value j c) (steps p j)

  -- of the visits with the first places of the order together
  abbrev pub placed : ℕ → ℕ
  placed a = sum_below (λ j. first_visits j (places_before p m j a)) (jobs p)

  elsewhere : (j c k : ℕ) → machine_of p j k ≢ m → visit_value j c k ≡ 0
  elsewhere j c k other = rw (ne_eqb (machine_of p j k) m other) refl

  counted : (j c k : ℕ) → machine_of p j k ≡ m → visits_before p j m k < c → visit_value j c k ≡ f (step_at (route p j) k)
  counted j c k here less = rw (eq-eqb (machine_of p j k) m here, lt-ltb (visits_before p j m k) c less) refl

  uncounted : (j c k : ℕ) → machine_of p j k ≡ m → c ≤ visits_before p j m k → visit_value j c k ≡ 0
  uncounted j c k here past = rw (eq-eqb (machine_of p j k) m here, le-ltb (visits_before p j m k) c past) refl

  -- one visit more adds its own value
  visit_more : (j c k : ℕ) → Visits p j k m → c ≡ visits_before p j m k → first_visits j (c + 1) ≡ first_visits j c + f (step_at (route p j) k)
  visit_more j c k visits is =
      let but = sum_below_but (visit_value j (c + 1)) (visit_value j c) (steps p j) k visits.within (λ l less other. same l other) in
      omega (arith, but, counted j (c + 1) k visits.here (omega (arith, is)), uncounted j c k visits.here (omega (arith, is)))
    where
      same : (l : ℕ) → l ≢ k → visit_value j (c + 1) l ≡ visit_value j c l
      same l other = elim (cases_eq (machine_of p j l) m) [
        | inr not ↦ elsewhere j (c + 1) l not ∙ sym (elsewhere j c l not)
        | inl here ↦ elim (cases_lt (visits_before p j m l) c) [
          | inl less ↦ counted j (c + 1) l here (omega (arith, less)) ∙ sym (counted j c l here less)
          | inr past ↦ (
              let apart : visits_before p j m l ≢ c = λ equal. other (count_apart (λ (i : ℕ). nat_eq (machine_of p j i) m) l k (eq-eqb (machine_of p j l) m here) (eq-eqb (machine_of p j k) m visits.here) (equal ∙ is)) in
              uncounted j (c + 1) l here (omega (arith, past, apart)) ∙ sym (uncounted j c l here past))
        ]
      ]

  -- one place more adds that of its visit
  pub placed_more : (a j k : ℕ) → Stands p m a j k → placed (a + 1) ≡ placed a + f (step_at (route p j) k)
  placed_more a j k stands =
      let but = sum_below_but (λ i. first_visits i (places_before p m i (a + 1))) (λ i. first_visits i (places_before p m i a)) (jobs p) j (visits_job p j k m stands.visits) (λ i less other. same i other) in
      let more : places_before p m j (a + 1) ≡ places_before p m j a + 1 = ap (λ (x : ℕ). places_before p m j x) (add-one a) ∙ count_passed (λ (b : ℕ). nat_eq (job_at p m b) j) a (eq-eqb (job_at p m a) j stands.job) in
      omega (arith, but, ap (first_visits j) more, visit_more j (places_before p m j a) k stands.visits stands.turn)
    where
      same : (i : ℕ) → i ≢ j → first_visits i (places_before p m i (a + 1)) ≡ first_visits i (places_before p m i a)
      same i other =
          ap (first_visits i) (ap (λ (x : ℕ). places_before p m i x) (add-one a) ∙ count_failed (λ (b : ℕ). nat_eq (job_at p m b) i) a (ne_eqb (job_at p m a) i (λ is. other (sym is ∙ stands.job))))

  -- none before the first place
  pub none_placed : placed 0 ≡ 0
  none_placed = sum_below_zero (λ j. first_visits j 0) (jobs p) (λ j inside. sum_below_zero (visit_value j 0) (steps p j) (λ k within. none j k))
    where
      none : (j k : ℕ) → visit_value j 0 k ≡ 0
      none j k = elim (cases_eq (machine_of p j k) m) [
        | inl here ↦ uncounted j 0 k here (omega arith)
        | inr not ↦ elsewhere j 0 k not
      ]

  -- all visits have places
  pub all_placed : IsOrder p m → sum_below (λ j. sum_on f m (route p j) (steps p j)) (jobs p) ≡ placed (length (order p m))
  all_placed sound =
      sum_below_same (λ j. sum_on f m (route p j) (steps p j)) (λ j. first_visits j (places_before p m j (length (order p m)))) (jobs p)
      (λ j inside. sum_below_same (λ k. if machine_of p j k == m then f (step_at (route p j) k) else 0) (visit_value j (places_before p m j (length (order p m)))) (steps p j) (same j))
    where
      same : (j k : ℕ) → k < steps p j → (if machine_of p j k == m then f (step_at (route p j) k) else 0) ≡ visit_value j (places_before p m j (length (order p m))) k
      same j k within = elim (cases_eq (machine_of p j k) m) [
        | inl here ↦ (
            let at = sound.complete j k (record { within = within; here = here }) in
            let rises = count_rises (λ (b : ℕ). nat_eq (job_at p m b) j) at.0 (length (order p m)) (eq-eqb (job_at p m at.0) j at.1.job) at.1.within in
            rw (eq-eqb (machine_of p j k) m here) refl ∙ sym (counted j (places_before p m j (length (order p m))) k here (omega (arith, at.1.turn, rises))))
        | inr not ↦ rw (ne_eqb (machine_of p j k) m not) refl ∙ sym (elsewhere j (places_before p m j (length (order p m))) k not)
      ]
