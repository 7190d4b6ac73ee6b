-- A planned shop without the jobs that don't stay is well shaped.
use Rattle.std.proofs.Common.{◌≡◌, ℕ, ◌<◌, ◌≤◌, List, [], length, slice_index, Option, Bool, true, false, nat_eq, refl, sym, ap, ◌∙◌, subst, arith, lt_of_not-le}
use Rattle.std.proofs.Math.ListN.{get_or-map}
use Rattle.std.proofs.lemmas.List.{get_or_past, length-map}
use Rattle.shop_base.specs.declared.shop.Step.{Step}
use Rattle.shop_base.specs.declared.limits.TheConstants.{MAX_RELEASE, MAX_MOMENT}
use Rattle.shop_base.specs.Shop.{IsRoute, step_at}
use Rattle.shop_base.specs.Plan.{PlannedShop, jobs, machines, route, release, budget, order, job_at, count_below, Visits, Stands, IsOrder, IsWellShaped}
use Rattle.shop_base.proofs.Counting.{count_found, count_rises, count_within}
use Rattle.shop_base.proofs.Visits.{visits_job, visits-stands, stands_once}
use Rattle.run_pruning.specs.Staying.{stays, new_number, renumbered}
use Rattle.run_pruning.specs.Pruned.{pruned}
use Rattle.run_pruning.proofs.Left.{staying_at, length-staying, job_of, stays_at, new_place, renumbered_at, length-renumbered, places_kept}

-- a job that stays has a mark
pub kept_inside : (marks : List Bool) (j : ℕ) → stays marks j ≡ true → j < length marks
kept_inside marks j kept = lt_of_not-le λ past. absurd (let none = get_or_past marks j false past in cc)

module _ (p : PlannedShop) (marks : List Bool) (count : length marks ≡ jobs p) where
  abbrev left : PlannedShop
  left = pruned marks p

  pub jobs_left : jobs left ≡ new_number marks (length marks)
  jobs_left = length-staying marks p.shop.routes count

  pub number_inside : (j : ℕ) → stays marks j ≡ true → new_number marks j < jobs left
  number_inside j kept = omega (arith, jobs_left, count_rises (stays marks) j (length marks) kept (kept_inside marks j kept))

  -- each job that is left was one that stays
  pub old_job : (i : ℕ) → i < jobs left → (j : ℕ) × (j < jobs p) × (stays marks j ≡ true) × (new_number marks j ≡ i)
  old_job i inside =
      let found = job_of marks (length marks) i (omega (arith, jobs_left)) in
      (found.0, omega (arith, found.1, count), found.2, found.3)

  pub route_kept : (j : ℕ) → stays marks j ≡ true → route left (new_number marks j) ≡ route p j
  route_kept j kept = staying_at marks p.shop.routes j [] kept

  pub order_left : (m : ℕ) → order left m ≡ renumbered marks (order p m)
  order_left m = get_or-map (renumbered marks) p.plan.order m []

  pub visits_kept : (j k m : ℕ) → stays marks j ≡ true → Visits p j k m → Visits left (new_number marks j) k m
  visits_kept j k m kept visits = record {
    within = omega (arith, visits.within, ap length (route_kept j kept));
    here = ap (λ (r : List Step). (step_at r k).machine) (route_kept j kept) ∙ visits.here;
  }

  pub visits_were : (j k m : ℕ) → stays marks j ≡ true → Visits left (new_number marks j) k m → Visits p j k m
  visits_were j k m kept visits = record {
    within = omega (arith, visits.within, ap length (route_kept j kept));
    here = sym (ap (λ (r : List Step). (step_at r k).machine) (route_kept j kept)) ∙ visits.here;
  }

  -- a job that stays stands at its new place for the same visit
  pub stands_kept : (m a j k : ℕ) → stays marks j ≡ true → Stands p m a j k → Stands left m (new_place marks (order p m) a) (new_number marks j) k
  stands_kept m a j k kept stands = record {
    within = omega (arith, ap length (order_left m), length-renumbered marks (order p m), count_rises (stays_at marks (order p m)) a (length (order p m)) here stands.within);
    job = ap (λ (js : List ℕ). slice_index js (new_place marks (order p m) a)) (order_left m) ∙ renumbered_at marks (order p m) a stands.within here ∙ ap (new_number marks) stands.job;
    visits = visits_kept j k m kept stands.visits;
    turn = ap (λ (js : List ℕ). count_below (λ b. nat_eq (slice_index js b) (new_number marks j)) (new_place marks (order p m) a)) (order_left m)
        ∙ places_kept marks (order p m) j a (omega (arith, stands.within)) kept ∙ stands.turn
        ∙ sym (ap (λ (r : List Step). count_below (λ i. nat_eq (step_at r i).machine m) k) (route_kept j kept));
  }
    where
      here : stays_at marks (order p m) a ≡ true
      here = ap (stays marks) stands.job ∙ kept

  -- a visit that is left was one of a job that stays
  pub stood : IsWellShaped p → (m b i k : ℕ) → Stands left m b i k → (j : ℕ) × (a : ℕ) × (stays marks j ≡ true) × (new_number marks j ≡ i) × Stands p m a j k × (new_place marks (order p m) a ≡ b)
  stood shaped m b i k stands =
      let (j, less, kept, is) = old_job i (visits_job left i k m stands.visits) in
      let mine : Stands left m b (new_number marks j) k = subst (λ x. Stands left m b x k) (sym is) stands in
      let (a, was) = visits-stands p j k m shaped (visits_were j k m kept mine.visits) in
      (j, a, kept, is, was, stands_once left m (new_place marks (order p m) a) b (new_number marks j) k (stands_kept m a j k kept was) mine)

  module _ (shaped : IsWellShaped p) where
    order_sound : (m : ℕ) → m < machines p → IsOrder left m
    order_sound m inside = record {
      on_route = λ b within.
          let (a, before, kept, is) = count_found (stays_at marks (order p m)) (length (order p m)) b (omega (arith, ap length (order_left m), length-renumbered marks (order p m))) in
          let (k, stands) = (shaped.orders m inside).on_route a before in
          let there : Stands left m (new_place marks (order p m) a) (new_number marks (job_at p m a)) k = stands_kept m a (job_at p m a) k kept stands in
          let here : Stands left m b (new_number marks (job_at p m a)) k = subst (λ x. Stands left m x (new_number marks (job_at p m a)) k) is there in
          (k, subst (λ x. Stands left m b x k) (sym here.job) here);
      complete = λ i k visits.
          let (j, less, kept, is) = old_job i (visits_job left i k m visits) in
          let was : Visits p j k m = visits_were j k m kept (subst (λ x. Visits left x k m) (sym is) visits) in
          let (a, stands) = visits-stands p j k m shaped was in
          (new_place marks (order p m) a, subst (λ x. Stands left m (new_place marks (order p m) a) x k) is (stands_kept m a j k kept stands));
    }

    few_left : jobs left ≤ jobs p
    few_left = omega (arith, jobs_left, count_within (stays marks) (length marks), count)

    pub pruned-shaped : (some : ℕ) → stays marks some ≡ true → IsWellShaped left
    pruned-shaped some kept_one = record {
      shop = record {
        counts = record {
          some_job = omega (arith, number_inside some kept_one);
          few_jobs = omega (arith, few_left, shaped.shop.counts.few_jobs);
          some_machine = shaped.shop.counts.some_machine;
          few_machines = shaped.shop.counts.few_machines;
        };
        routes = λ i inside.
            let (j, less, kept, is) = old_job i inside in
            subst (λ (r : List Step). IsRoute p.shop.machines p.shop.recirculates r) (sym (route_kept j kept) ∙ ap (route left) is) (shaped.shop.routes j less);
      };
      counts = record {
        releases = length-staying marks p.plan.release (count ∙ sym shaped.counts.releases) ∙ sym jobs_left;
        budgets = length-staying marks p.plan.budget (count ∙ sym shaped.counts.budgets) ∙ sym jobs_left;
        orders = length-map p.plan.order (renumbered marks) ∙ shaped.counts.orders;
        cleanings = shaped.counts.cleanings;
      };
      limits = record {
        releases = λ i inside.
            let (j, less, kept, is) = old_job i inside in
            subst (λ x. release left x ≤ MAX_RELEASE) is (omega (arith, staying_at marks p.plan.release j 0 kept, shaped.limits.releases j less));
        budgets = λ i inside.
            let (j, less, kept, is) = old_job i inside in
            subst (λ x. budget left x ≤ MAX_MOMENT) is (omega (arith, staying_at marks p.plan.budget j 0 kept, shaped.limits.budgets j less));
        cleanings = shaped.limits.cleanings;
      };
      orders = order_sound;
    }

-- a planned shop is its parts
pub planned_parts : (q : PlannedShop) (n : ℕ) (again : Bool) (routes : List (List Step)) (releases budgets : List ℕ) (orders : List (List ℕ)) (cleanings : Option (List ℕ))
    → n ≡ q.shop.machines → again ≡ q.shop.recirculates → routes ≡ q.shop.routes → releases ≡ q.plan.release → budgets ≡ q.plan.budget → orders ≡ q.plan.order → cleanings ≡ q.plan.clean
    → (let whole : PlannedShop = record {
      shop = record { machines = n; routes = routes; recirculates = again };
      plan = record { release = releases; budget = budgets; order = orders; clean = cleanings };
    } in
    whole ≡ q)
planned_parts q n again routes releases budgets orders cleanings one two three four five six seven = rw (one, two, three, four, five, six, seven) refl
