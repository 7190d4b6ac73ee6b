-- A job with one visit more: what is left and changed, and that the plan still fits.
use Rattle.std.proofs.Common.{◌≡◌, ◌≢◌, ℕ, zero, suc, ◌+◌, ◌<◌, ◌≤◌, ◌⊎◌, inl, inr, List, [], ◌∷◌, ◌++◌, length, get_or, nat_eq, cond, Bool, refl, sym, ap, ◌∙◌, subst, arith, length-append}
use Rattle.std.specs.Prelude.{insert, remove}
use Rattle.std.proofs.lemmas.Bool.{cases_eq, cases_lt, eq-eqb, eqb-true, ne_eqb}
use Rattle.std.proofs.lemmas.List.{get_or-set_same, get_or-set_other, length-set}
use Rattle.std.proofs.lemmas.List.Edits.{length-insert, get_or-insert_at}
use Rattle.std.proofs.Math.ListN.{get_or-append}
use Rattle.shop_base.specs.declared.shop.Step.{Step}
use Rattle.shop_base.specs.Shop.{IsRoute, IsSoundStep, step_at, no_step}
use Rattle.shop_base.specs.Plan.{PlannedShop, jobs, machines, route, steps, order, job_at, places_before, count_below, Visits, IsOrder}
use Rattle.shop_base.specs.ShapeFault.{visit_count, place_count}
use Rattle.shop_base.proofs.{Counting.{count_found, count_rises}, Orders.{stands-place, none_missing, order_from_places}}
use Rattle.plan_revise.specs.AnotherWay.{with_visit_at}
use Rattle.plan_revise.specs.Fits.{IsFit}
use Rattle.plan_revise.specs.Parts.{visits_in}
use Rattle.plan_revise.proofs.Places.{IsRemoved, count_first, visits_in-count, visits_here, visits_there}

-- ---- an order has each job as often as it visits the machine

module _ (p : PlannedShop) (m : ℕ) where
  pub order-counts : IsOrder p m → (i : ℕ) → place_count p m i ≡ visit_count p m i
  order-counts sound i = elim (cases_lt (visit_count p m i) (place_count p m i)) [
    | inl more ↦ absurd (
        let found = count_found (λ (b : ℕ). nat_eq (job_at p m b) i) (length (order p m)) (visit_count p m i) more in
        let mine : job_at p m found.0 ≡ i = eqb-true (job_at p m found.0) i found.2 in
        let at = sound.on_route found.0 found.1 in
        let good = stands-place p m found.0 at.0 at.1 in
        omega (arith, good, found.3, ap (λ i. places_before p m i found.0) mine, ap (visit_count p m) mine))
    | inr enough ↦ omega (arith, enough, none_missing p m i sound)
  ]

  pub counts-order : ((i : ℕ) → place_count p m i ≡ visit_count p m i) → IsOrder p m
  counts-order same = order_from_places p m
      (λ a within. omega (arith, same (job_at p m a), count_rises (λ (b : ℕ). nat_eq (job_at p m b) (job_at p m a)) a (length (order p m)) (eq-eqb (job_at p m a) (job_at p m a) refl) within))
      (λ i inside. omega (arith, same i))

-- ---- one entry more in a list

-- how often a job is in a list
often : ℕ → List ℕ → ℕ
often i xs = count_below (λ b. nat_eq (get_or xs b 0) i) (length xs)

often_first : (i x : ℕ) (xs : List ℕ) → often i (x ∷ xs) ≡ cond (nat_eq x i) 1 0 + often i xs
unfolding often
often_first i x xs = count_first (λ b. nat_eq (get_or (x ∷ xs) b 0) i) (length xs)

often_insert : (i j : ℕ) (xs : List ℕ) (a : ℕ) → a ≤ length xs → often i (insert xs a j) ≡ often i xs + cond (nat_eq j i) 1 0
often_insert i j xs zero within = omega (arith, often_first i j xs)
often_insert i j [] (suc a) within = absurd (omega arith)
often_insert i j (x ∷ xs) (suc a) within = omega (arith, often_first i x (insert xs a j), often_first i x xs, often_insert i j xs a (omega arith))

visits_more : (r : List Step) (step : Step) (m : ℕ) → visits_in (r ++ step ∷ []) m ≡ visits_in r m + cond (nat_eq step.machine m) 1 0
visits_more [] step m = go (cases_eq step.machine m)
  where
    go : (step.machine ≡ m) ⊎ (step.machine ≢ m) → visits_in (step ∷ []) m ≡ 0 + cond (nat_eq step.machine m) 1 0
    go (inl here) = omega (arith, visits_here step [] m here, ap {B = ℕ} (λ (b : Bool). cond b 1 0) (eq-eqb step.machine m here))
    go (inr there) = omega (arith, visits_there step [] m there, ap {B = ℕ} (λ (b : Bool). cond b 1 0) (ne_eqb step.machine m there))
visits_more (first ∷ r) step m = go (cases_eq first.machine m) (visits_more r step m)
  where
    go : (first.machine ≡ m) ⊎ (first.machine ≢ m) → visits_in (r ++ step ∷ []) m ≡ visits_in r m + cond (nat_eq step.machine m) 1 0 → visits_in (first ∷ r ++ step ∷ []) m ≡ visits_in (first ∷ r) m + cond (nat_eq step.machine m) 1 0
    go (inl here) rest = omega (arith, visits_here first (r ++ step ∷ []) m here, visits_here first r m here, rest)
    go (inr there) rest = omega (arith, visits_there first (r ++ step ∷ []) m there, visits_there first r m there, rest)

-- an entry that is put into a list comes out again
put_removed : (xs : List ℕ) (a j : ℕ) → a ≤ length xs → xs ≡ remove (insert xs a j) a
put_removed xs zero j within = refl
put_removed [] (suc a) j within = absurd (omega arith)
put_removed (x ∷ xs) (suc a) j within = ap (λ (ys : List ℕ). x ∷ ys) (put_removed xs a j (omega arith))

-- ---- what is left and changed

module _ (p : PlannedShop) (j : ℕ) (step : Step) (a : ℕ) where
  -- the plan that is made
  abbrev longer : PlannedShop
  longer = with_visit_at p j step a

  pub visit-jobs : jobs longer ≡ jobs p
  visit-jobs = length-set p.shop.routes j (route p j ++ step ∷ [])

  pub visit-mine : j < jobs p → route longer j ≡ route p j ++ step ∷ []
  visit-mine inside = get_or-set_same p.shop.routes j (route p j ++ step ∷ []) [] inside

  pub visit-others : (i : ℕ) → i ≢ j → route longer i ≡ route p i
  visit-others i other = get_or-set_other p.shop.routes j i (route p j ++ step ∷ []) [] other

  pub visit-order : step.machine < length p.plan.order → order longer step.machine ≡ insert (order p step.machine) a j
  visit-order inside = get_or-set_same p.plan.order step.machine (insert (order p step.machine) a j) [] inside

  pub visit-orders : (m : ℕ) → m ≢ step.machine → order longer m ≡ order p m
  visit-orders m other = get_or-set_other p.plan.order step.machine m (insert (order p step.machine) a j) [] other

  -- without the new entry the order is as it was
  pub visit-removed : step.machine < length p.plan.order → a ≤ length (order p step.machine) → IsRemoved j (order longer step.machine) a (order p step.machine)
  visit-removed inside within = record {
    within = omega (arith, ap length put, length-insert (order p step.machine) a j within, within);
    here = ap (λ (xs : List ℕ). get_or xs a 0) put ∙ get_or-insert_at (order p step.machine) a j 0 within;
    is = put_removed (order p step.machine) a j within ∙ ap (λ (xs : List ℕ). remove xs a) (sym put);
  }
    where
      put : order longer step.machine ≡ insert (order p step.machine) a j
      put = visit-order inside

  module _ (inside : j < jobs p) where
    pub visit-steps : steps longer j ≡ steps p j + 1
    visit-steps = ap length (visit-mine inside) ∙ length-append (route p j) (step ∷ [])

    -- each visit of before is made
    pub visit-visits : (i k m : ℕ) → Visits p i k m → Visits longer i k m
    visit-visits i k m visits = elim (cases_eq i j) [
      | inl same ↦ subst (λ i. Visits longer i k m) (sym same) (mine (subst (λ i. Visits p i k m) same visits))
      | inr other ↦ record { within = omega (arith, ap length (visit-others i other), visits.within); here = ap (λ (r : List Step). (step_at r k).machine) (visit-others i other) ∙ visits.here }
    ]
      where
        mine : Visits p j k m → Visits longer j k m
        mine visits = record {
          within = omega (arith, visit-steps, visits.within);
          here = ap (λ (r : List Step). (step_at r k).machine) (visit-mine inside) ∙ ap (λ (s : Step). s.machine) (get_or-append (route p j) (step ∷ []) no_step k visits.within) ∙ visits.here;
        }

    module _ (fit : IsFit p) (in_range : step.machine < machines p) (within : a ≤ length (order p step.machine)) where
      places_mine : (i : ℕ) → place_count longer step.machine i ≡ place_count p step.machine i + cond (nat_eq j i) 1 0
      unfolding often
      places_mine i = subst (λ (xs : List ℕ). count_below (λ b. nat_eq (get_or xs b 0) i) (length xs) ≡ place_count p step.machine i + cond (nat_eq j i) 1 0)
          (sym (visit-order (omega (arith, fit.counts.orders)))) (often_insert i j (order p step.machine) a within)

      visits_mine : (m : ℕ) → visit_count longer m j ≡ visit_count p m j + cond (nat_eq step.machine m) 1 0
      visits_mine m =
          subst (λ (r : List Step). count_below (λ k. nat_eq (step_at r k).machine m) (length r) ≡ visits_in (route p j ++ step ∷ []) m) (sym (visit-mine inside)) (sym (visits_in-count (route p j ++ step ∷ []) m))
          ∙ visits_more (route p j) step m ∙ ap (λ n. n + cond (nat_eq step.machine m) 1 0) (visits_in-count (route p j) m)

      visits_other : (m i : ℕ) → i ≢ j → visit_count longer m i ≡ visit_count p m i
      visits_other m i other = ap (λ (r : List Step). count_below (λ k. nat_eq (step_at r k).machine m) (length r)) (visit-others i other)

      counts_here : (m : ℕ) → m < machines p → (i : ℕ) → place_count longer m i ≡ visit_count longer m i
      counts_here m inside_m i = go (cases_eq m step.machine) (cases_eq i j)
        where
          old : place_count p m i ≡ visit_count p m i
          old = order-counts p m (fit.orders m inside_m) i

          go : (m ≡ step.machine) ⊎ (m ≢ step.machine) → (i ≡ j) ⊎ (i ≢ j) → place_count longer m i ≡ visit_count longer m i
          go (inl here) (inl mine) =
              omega (
                arith,
                old,
                places_mine i,
                visits_mine m,
                ap (λ m. place_count longer m i) here,
                ap (λ m. place_count p m i) here,
                ap (visit_count longer m) mine,
                ap (visit_count p m) mine,
                ap {B = ℕ} (λ (b : Bool). cond b 1 0) (eq-eqb j i (sym mine)),
                ap {B = ℕ} (λ (b : Bool). cond b 1 0) (eq-eqb step.machine m (sym here)),
              )
          go (inl here) (inr other) =
              omega (
                arith,
                old,
                places_mine i,
                visits_other m i other,
                ap (λ m. place_count longer m i) here,
                ap (λ m. place_count p m i) here,
                ap {B = ℕ} (λ (b : Bool). cond b 1 0) (ne_eqb j i (λ same. other (sym same))),
              )
          go (inr there) (inl mine) =
              omega (
                arith,
                old,
                visits_mine m,
                ap (λ (xs : List ℕ). count_below (λ b. nat_eq (get_or xs b 0) i) (length xs)) (visit-orders m there),
                ap (visit_count longer m) mine,
                ap (visit_count p m) mine,
                ap {B = ℕ} (λ (b : Bool). cond b 1 0) (ne_eqb step.machine m (λ same. there (sym same))),
              )
          go (inr there) (inr other) = omega (arith, old, visits_other m i other, ap (λ (xs : List ℕ). count_below (λ b. nat_eq (get_or xs b 0) i) (length xs)) (visit-orders m there))

      -- the plan still fits
      pub visit-fit : IsRoute (machines p) p.shop.recirculates (route p j ++ step ∷ []) → IsFit longer
      visit-fit sound = record {
        size = rw length-set fit.size;
        few_steps = λ i. elim (cases_eq i j) [
          | inl same ↦ omega (arith, ap (steps longer) same, ap length (visit-mine inside), sound.few_steps)
          | inr other ↦ omega (arith, ap length (visit-others i other), fit.few_steps i)
        ];
        steps_sound = λ i k less. sound_still i k less;
        counts = record {
          releases = fit.counts.releases ∙ sym visit-jobs;
          budgets = fit.counts.budgets ∙ sym visit-jobs;
          orders = length-set p.plan.order step.machine (insert (order p step.machine) a j) ∙ fit.counts.orders;
          cleanings = fit.counts.cleanings;
        };
        limits = record {
          releases = λ i less. fit.limits.releases i (omega (arith, visit-jobs));
          budgets = λ i less. fit.limits.budgets i (omega (arith, visit-jobs));
          cleanings = fit.limits.cleanings;
        };
        orders = λ m here. counts-order longer m (counts_here m here);
      }
        where
          sound_still : (i k : ℕ) → k < steps longer i → IsSoundStep (machines p) p.shop.recirculates (route longer i) k
          sound_still i k less = elim (cases_eq i j) [
            | inl same ↦ at (ap (route longer) same ∙ visit-mine inside)
            | inr other ↦ subst (λ (r : List Step). IsSoundStep (machines p) p.shop.recirculates r k) (sym (visit-others i other)) (fit.steps_sound i k (omega (arith, ap length (visit-others i other))))
          ]
            where
              at : route longer i ≡ route p j ++ step ∷ [] → IsSoundStep (machines p) p.shop.recirculates (route longer i) k
              at is = subst (λ (r : List Step). IsSoundStep (machines p) p.shop.recirculates r k) (sym is) (sound.steps k (omega (arith, ap length is)))
