-- A job that ends behind its first steps: what is left and changed, and that the plan still fits. It loses its steps one by one, the last one first.
use Rattle.std.proofs.Common.{◌≡◌, ◌≢◌, ℕ, zero, suc, ◌+◌, ◌-◌, ◌<◌, ◌≤◌, ◌⊎◌, inl, inr, List, [], ◌∷◌, length, take, drop, get_or, min, Bool, nat_eq, refl, sym, ap, ◌∙◌, subst, arith, add-one, drop-cons, drop_of_length-le}
use Rattle.std.proofs.lemmas.Bool.{cases_eq, cases_lt, cases_order}
use Rattle.std.proofs.lemmas.List.{get_or-set_same, get_or-set_other, length-set, get_or-take, length-take, take-take}
use Rattle.shop_base.specs.declared.shop.Step.{Step}
use Rattle.shop_base.specs.Shop.{IsSoundStep, step_at, no_step}
use Rattle.shop_base.specs.Plan.{PlannedShop, jobs, machines, route, steps, machine_of, order, job_at, budget, visits_before as visit_turn, Visits, Stands, IsOrder}
use Rattle.shop_base.proofs.Visits.{stands_alike, stands_in_turn, stands_same, stands_step}
use Rattle.shop_base.proofs.Counting.{count_same}
use Rattle.plan_revise.specs.Orders.{without_last, removed}
use Rattle.plan_revise.specs.Promises.{no_promise}
use Rattle.plan_revise.specs.Ended.{with_job_ended}
use Rattle.plan_revise.specs.Fits.{IsFit}
use Rattle.plan_revise.specs.Parts.{IsBehind, Ends}
use Rattle.plan_revise.proofs.Places.{IsRemoved, removed-size, removed-before, removed-after, removed-count, last_taken, changed-length, changed-here, changed-there}
use Rattle.plan_revise.proofs.Fitting.{fit-machine, fit-stands, fit-place}

-- what is left and changed
pub ended-ends : (p : PlannedShop) (j n : ℕ) → IsFit p → j < jobs p → Ends p j n (with_job_ended p j n)
ended-ends p j n fit inside = record {
  jobs_same = length-set p.shop.routes j (take n (route p j));
  mine = get_or-set_same p.shop.routes j (take n (route p j)) [] inside;
  others = λ i other. get_or-set_other p.shop.routes j i (take n (route p j)) [] other;
  cleans = λ m. refl;
  releases = λ i. refl;
  unpromised = get_or-set_same p.plan.budget j no_promise 0 (omega (arith, fit.counts.budgets));
  budgets = λ i other. get_or-set_other p.plan.budget j i no_promise 0 other;
}

-- ---- reading the plan that is left

module _ (p : PlannedShop) (j n : ℕ) (q : PlannedShop) (ends : Ends p j n q) where
  -- a step of the plan that is left is one of before
  pub step_before : (i k : ℕ) → k < steps q i → (k < steps p i) × (step_at (route q i) k ≡ step_at (route p i) k)
  step_before i k within = elim (cases_eq i j) [
    | inl same ↦ at same
    | inr other ↦ (omega (arith, ap length (ends.others i other)), ap (λ (r : List Step). step_at r k) (ends.others i other))
  ]
    where
      at : i ≡ j → (k < steps p i) × (step_at (route q i) k ≡ step_at (route p i) k)
      at same =
          let cut : route q i ≡ take n (route p i) = ap (route q) same ∙ ends.mine ∙ ap (λ i. take n (route p i)) (sym same) in
          let size : steps q i ≡ min n (steps p i) = ap length cut ∙ length-take n (route p i) in
          (omega (arith, size), ap (λ (r : List Step). step_at r k) cut ∙ get_or-take n (route p i) k no_step (omega (arith, size)))

  pub steps_few : (i : ℕ) → steps q i ≤ steps p i
  steps_few i = elim (cases_eq i j) [
    | inl same ↦ omega (arith, ap (steps q) same, ap (steps p) same, ap length ends.mine, length-take n (route p j))
    | inr other ↦ omega (arith, ap length (ends.others i other))
  ]

  pub mine_below : (k : ℕ) → k < steps q j → k < n
  mine_below k within = omega (arith, ap length ends.mine, length-take n (route p j))

  pub visits_before : (i k m : ℕ) → Visits q i k m → Visits p i k m
  visits_before i k m visits =
      let b = step_before i k visits.within in
      record { within = b.0; here = sym (ap (λ (s : Step). s.machine) b.1) ∙ visits.here }

  pub visits_others : (i k m : ℕ) → i ≢ j → Visits p i k m → Visits q i k m
  visits_others i k m other visits = record {
    within = omega (arith, ap length (ends.others i other), visits.within);
    here = ap (λ (r : List Step). (step_at r k).machine) (ends.others i other) ∙ visits.here;
  }

  pub visits_mine : (k m : ℕ) → k < n → Visits p j k m → Visits q j k m
  visits_mine k m less visits = record {
    within = omega (arith, ap length ends.mine, length-take n (route p j), visits.within);
    here = ap (λ (r : List Step). (step_at r k).machine) ends.mine ∙ ap (λ (s : Step). s.machine) (get_or-take n (route p j) k no_step less) ∙ visits.here;
  }

-- ---- a job that ends behind all its visits to a machine but the last, or has none behind

-- job j stands at place x of the order of machine m for its step k, the only one behind its first n, and is taken out there
pub record IsRemovedAt (p : PlannedShop) (j n : ℕ) (q : PlannedShop) (m : ℕ) : Type 0 where
  pub place : ℕ
  pub step : ℕ
  pub behind : n ≤ step
  pub only : (k : ℕ) → n ≤ k → Visits p j k m → k ≡ step
  pub stands : Stands p m place j step
  pub removed : IsRemoved j (order p m) place (order q m)

-- job j has no step behind on machine m, whose order is as it was
pub record IsLeft (p : PlannedShop) (j n : ℕ) (q : PlannedShop) (m : ℕ) : Type 0 where
  pub not_behind : IsBehind p j n m → ⊥
  pub same : order q m ≡ order p m

-- plan p becomes plan q where job j ends behind its first n steps and is taken out of no order twice
pub record EndsOnce (p : PlannedShop) (j n : ℕ) (q : PlannedShop) : Type 0 where
  pub ends : Ends p j n q
  pub orders : (m : ℕ) → IsLeft p j n q m ⊎ IsRemovedAt p j n q m

module _ (p : PlannedShop) (j n : ℕ) (q : PlannedShop) (fit : IsFit p) (once : EndsOnce p j n q) where
  machine_same : (i k : ℕ) → k < steps q i → machine_of q i k ≡ machine_of p i k
  machine_same i k within = ap (λ (s : Step). s.machine) (step_before p j n q once.ends i k within).1

  machine_before : (i k : ℕ) → k < steps q i → machine_of p i k ≡ machine_of q i k
  machine_before i k within = sym (machine_same i k within)

  turn_same : (i k m : ℕ) → k < steps q i → visit_turn q i m k ≡ visit_turn p i m k
  turn_same i k m within = count_same (λ l. nat_eq (machine_of q i l) m) (λ l. nat_eq (machine_of p i l) m) k (λ l less. ap (λ x. nat_eq x m) (machine_same i l (omega arith)))

  module _ (m : ℕ) (t : IsRemovedAt p j n q m) where
    size : length (order p m) ≡ length (order q m) + 1
    size = removed-size j (order p m) t.place (order q m) t.removed

    before : (a : ℕ) → a < t.place → job_at q m a ≡ job_at p m a
    before = removed-before j (order p m) t.place (order q m) t.removed

    after : (a : ℕ) → t.place ≤ a → job_at q m a ≡ job_at p m (a + 1)
    after = removed-after j (order p m) t.place (order q m) t.removed

    -- behind the place job j doesn't stand
    not_behind_place : (b i l : ℕ) → Stands p m b i l → t.place < b → i ≢ j
    not_behind_place b i l stands more mine =
        let own : Stands p m b j l = subst (λ i. Stands p m b i l) mine stands in
        let later : t.step < l = stands_in_turn p m t.place b j t.step l t.stands own more in
        omega (arith, later, t.behind, t.only l (omega (arith, later, t.behind)) own.visits)

    -- and before it, for its first steps
    early : (b l : ℕ) → Stands p m b j l → b < t.place → l < n
    early b l stands less = elim (cases_lt l n) [
      | inl is ↦ is
      | inr behind ↦ (let sooner : l < t.step = stands_in_turn p m b t.place j l t.step stands t.stands less in
          absurd (omega (arith, sooner, t.only l behind stands.visits)))
    ]

  -- where a job that is left stands, it stood, at its place or at the next
  pub stands_before : (m a i k : ℕ) → Stands q m a i k → IsLeft p j n q m → Stands p m a i k
  stands_before m a i k stands left = stands_alike q p m a i k stands (omega (arith, ap length left.same, stands.within))
      (λ b less. sym (ap (λ (xs : List ℕ). get_or xs b 0) left.same)) (step_before p j n q once.ends i k stands.visits.within).0 (λ l less. machine_before i l (omega (arith, less, stands.visits.within)))

  pub stands_front : (m a i k : ℕ) → Stands q m a i k → (t : IsRemovedAt p j n q m) → a < t.place → Stands p m a i k
  stands_front m a i k stands t less = stands_alike q p m a i k stands (omega (arith, size m t, stands.within))
      (λ b under. sym (before m t b (omega (arith, under, less)))) (step_before p j n q once.ends i k stands.visits.within).0 (λ l under. machine_before i l (omega (arith, under, stands.visits.within)))

  pub stands_back : (m a i k : ℕ) → Stands q m a i k → (t : IsRemovedAt p j n q m) → t.place ≤ a → Stands p m (a + 1) i k
  stands_back m a i k stands t more = record {
    within = within;
    job = here;
    visits = visits_before p j n q once.ends i k m stands.visits;
    turn = sym (removed-count j (order p m) t.place (order q m) t.removed i a other more) ∙ stands.turn ∙ turn_same i k m stands.visits.within;
  }
    where
      within : a + 1 < length (order p m)
      within = omega (arith, size m t, stands.within)

      here : job_at p m (a + 1) ≡ i
      here = sym (after m t a more) ∙ stands.job

      other : i ≢ j
      other = let found = fit-place p fit m (a + 1) i (fit-machine p fit j t.step m t.stands.visits) within here in not_behind_place m t (a + 1) i found.0 found.1 (omega arith)

  -- ---- the plan that is left fits

  visits_kept : (i k m : ℕ) → (i ≡ j → k < n) → Visits p i k m → Visits q i k m
  visits_kept i k m early visits = elim (cases_eq i j) [
    | inr other ↦ visits_others p j n q once.ends i k m other visits
    | inl same ↦ subst (λ i. Visits q i k m) (sym same) (visits_mine p j n q once.ends k m (early same) (subst (λ i. Visits p i k m) same visits))
  ]

  -- a visit that is left has its place in an order that is as it was
  stands_left : (m a i k : ℕ) → IsLeft p j n q m → Stands p m a i k → Stands q m a i k
  stands_left m a i k left stands =
      let visits : Visits q i k m = visits_kept i k m first stands.visits in
      stands_alike p q m a i k stands (omega (arith, ap length left.same, stands.within)) (λ b less. ap (λ (xs : List ℕ). get_or xs b 0) left.same) visits.within (λ l less. machine_same i l (omega (arith, less, visits.within)))
    where
      first : i ≡ j → k < n
      first same = elim (cases_lt k n) [
        | inl less ↦ less
        | inr more ↦ absurd (left.not_behind (k, more, subst (λ i. Visits p i k m) same stands.visits))
      ]

  -- before the place that is taken out it keeps its own
  stands_early : (m a i k : ℕ) (t : IsRemovedAt p j n q m) → a < t.place → Stands p m a i k → Stands q m a i k
  stands_early m a i k t less stands =
      let visits : Visits q i k m = visits_kept i k m (λ same. early m t a k (subst (λ i. Stands p m a i k) same stands) less) stands.visits in
      stands_alike p q m a i k stands (omega (arith, size m t, t.removed.within)) (λ b under. before m t b (omega (arith, under))) visits.within (λ l under. machine_same i l (omega (arith, under, visits.within)))

  -- behind it moves up
  stands_late : (m a i k : ℕ) (t : IsRemovedAt p j n q m) → t.place ≤ a → Stands p m (a + 1) i k → Stands q m a i k
  stands_late m a i k t more stands =
      let other : i ≢ j = not_behind_place m t (a + 1) i k stands (omega arith) in
      let visits : Visits q i k m = visits_others p j n q once.ends i k m other stands.visits in
      record {
        within = omega (arith, size m t, stands.within);
        job = after m t a more ∙ stands.job;
        visits = visits;
        turn = removed-count j (order p m) t.place (order q m) t.removed i a other more ∙ stands.turn ∙ sym (turn_same i k m visits.within);
      }

  once_order : (m : ℕ) → m < machines p → IsOrder q m
  once_order m inside = elim (once.orders m) [ inl left ↦ same left | inr t ↦ shorter t ]
    where
      old : IsOrder p m
      old = fit.orders m inside

      same : IsLeft p j n q m → IsOrder q m
      same left = record {
        on_route = λ a within. (let found = fit-place p fit m a (job_at q m a) inside (omega (arith, ap length left.same)) (sym (ap (λ (xs : List ℕ). get_or xs a 0) left.same)) in
            (found.0, stands_left m a (job_at q m a) found.0 left found.1));
        complete = λ i k visits. (let found = old.complete i k (visits_before p j n q once.ends i k m visits) in (found.0, stands_left m found.0 i k left found.1));
      }

      shorter : IsRemovedAt p j n q m → IsOrder q m
      shorter t = record {
        on_route = λ a within. elim (cases_lt a t.place) [
          | inl less ↦ (let found = fit-place p fit m a (job_at q m a) inside (omega (arith, size m t)) (sym (before m t a less)) in (found.0, stands_early m a (job_at q m a) found.0 t less found.1))
          | inr more ↦ (let found = fit-place p fit m (a + 1) (job_at q m a) inside (omega (arith, size m t)) (sym (after m t a more)) in (found.0, stands_late m a (job_at q m a) found.0 t more found.1))
        ];
        complete = λ i k visits. complete i k visits;
      }
        where
          complete : (i k : ℕ) → Visits q i k m → (a : ℕ) × Stands q m a i k
          complete i k visits = at (old.complete i k (visits_before p j n q once.ends i k m visits))
            where
              at : (b : ℕ) × Stands p m b i k → (a : ℕ) × Stands q m a i k
              at (b, stands) = go (cases_order b t.place)
                where
                  here : b ≡ t.place → ⊥
                  here is =
                      let there : Stands p m t.place i k = subst (λ b. Stands p m b i k) is stands in
                      let mine : i ≡ j = stands_same p m t.place i j k t.step there t.stands in
                      let own : Visits q j k m = subst (λ i. Visits q i k m) mine visits in
                      omega (arith, mine_below p j n q once.ends k own.within, t.behind, stands_step p m t.place j k t.step (subst (λ i. Stands p m t.place i k) mine there) t.stands)

                  go : (b ≡ t.place) ⊎ ((b < t.place) ⊎ (t.place < b)) → (a : ℕ) × Stands q m a i k
                  go (inl is) = absurd (here is)
                  go (inr (inl less)) = (b, stands_early m b i k t less stands)
                  go (inr (inr more)) =
                      let back : b ≡ (b - 1) + 1 = omega (arith, more) in
                      (b - 1, stands_late m (b - 1) i k t (omega (arith, more)) (subst (λ b. Stands p m b i k) back stands))

-- ---- one step lost after the other, the last one first

sound_front : (count : ℕ) (again : Bool) (n : ℕ) (r : List Step) (k : ℕ) → k < n → IsSoundStep count again r k → IsSoundStep count again (take n r) k
sound_front count again n r k less sound = record {
  in_range = rw (get_or-take n r k no_step less) sound.in_range;
  elsewhere = λ (i, next, same). sound.elsewhere (
    i,
    next,
    ap (λ (s : Step). s.machine) (sym (get_or-take n r i no_step (omega (arith, next, less)))) ∙ same ∙ ap (λ (s : Step). s.machine) (get_or-take n r k no_step less),
  );
  first_visit = λ once i before same.
      sound.first_visit once i before (ap (λ (s : Step). s.machine) (sym (get_or-take n r i no_step (omega arith))) ∙ same ∙ ap (λ (s : Step). s.machine) (get_or-take n r k no_step less));
  nominal = rw (get_or-take n r k no_step less) sound.nominal;
}

module _ (p : PlannedShop) (j n : ℕ) (fit : IsFit p) (inside : j < jobs p) where
  sound_left : (i k : ℕ) → k < steps (with_job_ended p j n) i → IsSoundStep (machines p) p.shop.recirculates (route (with_job_ended p j n) i) k
  sound_left i k within = go (cases_eq i j)
    where
      ends : Ends p j n (with_job_ended p j n)
      ends = ended-ends p j n fit inside

      go : (i ≡ j) ⊎ (i ≢ j) → IsSoundStep (machines p) p.shop.recirculates (route (with_job_ended p j n) i) k
      go (inl same) =
          let cut : route (with_job_ended p j n) i ≡ take n (route p j) = ap (route (with_job_ended p j n)) same ∙ ends.mine in
          let size : steps (with_job_ended p j n) i ≡ min n (steps p j) = ap length cut ∙ length-take n (route p j) in
          subst (λ (r : List Step). IsSoundStep (machines p) p.shop.recirculates r k) (sym cut) (sound_front (machines p) p.shop.recirculates n (route p j) k (omega (arith, size)) (fit.steps_sound j k (omega (arith, size))))
      go (inr other) =
          subst (λ (r : List Step). IsSoundStep (machines p) p.shop.recirculates r k) (sym (ends.others i other)) (fit.steps_sound i k (omega (arith, ap length (ends.others i other))))

  left_fit : ((m : ℕ) → m < machines p → IsOrder (with_job_ended p j n) m) → IsFit (with_job_ended p j n)
  left_fit orders_left = record {
    size = rw length-set fit.size;
    few_steps = λ i. omega (arith, steps_few p j n (with_job_ended p j n) (ended-ends p j n fit inside) i, fit.few_steps i);
    steps_sound = sound_left;
    counts = record {
      releases = fit.counts.releases ∙ sym (length-set p.shop.routes j (take n (route p j)));
      budgets = length-set p.plan.budget j no_promise ∙ fit.counts.budgets ∙ sym (length-set p.shop.routes j (take n (route p j)));
      orders = changed-length (without_last j) (drop n (route p j)) p.plan.order ∙ fit.counts.orders;
      cleanings = fit.counts.cleanings;
    };
    limits = record {
      releases = λ i within. fit.limits.releases i (omega (arith, length-set p.shop.routes j (take n (route p j))));
      budgets = λ i within. budget_left i (omega (arith, length-set p.shop.routes j (take n (route p j))));
      cleanings = fit.limits.cleanings;
    };
    orders = orders_left;
  }
    where
      budget_left : (i : ℕ) → i < jobs p → budget (with_job_ended p j n) i ≤ no_promise
      budget_left i within = elim (cases_eq i j) [
        | inl same ↦ omega (arith, ap (budget (with_job_ended p j n)) same, (ended-ends p j n fit inside).unpromised)
        | inr other ↦ omega (arith, (ended-ends p j n fit inside).budgets i other, fit.limits.budgets i within)
      ]

module _ (p : PlannedShop) (j : ℕ) (fit : IsFit p) (inside : j < jobs p) where
  -- where no step is behind, the orders are as they were
  first_once : (n : ℕ) → steps p j ≤ n → EndsOnce p j n (with_job_ended p j n)
  first_once n all = record {
    ends = ended-ends p j n fit inside;
    orders = λ m. inl (record {
      not_behind = λ (k, more, visits). omega (arith, visits.within);
      same = ap (λ (steps : List Step). get_or (removed j steps p.plan.order) m []) (drop_of_length-le (route p j) all);
    });
  }

  -- the plan in which it has one step more
  module _ (n : ℕ) (less : n < steps p j) (fit_one : IsFit (with_job_ended p j (n + 1))) where
    one_ends : Ends p j (n + 1) (with_job_ended p j (n + 1))
    one_ends = ended-ends p j (n + 1) fit inside

    next_ends : Ends (with_job_ended p j (n + 1)) j n (with_job_ended p j n)
    next_ends = record {
      jobs_same = ends.jobs_same ∙ sym one_ends.jobs_same;
      mine = ends.mine ∙ sym (ap (take n) one_ends.mine ∙ take-take n (n + 1) (route p j) (omega arith));
      others = λ i other. ends.others i other ∙ sym (one_ends.others i other);
      cleans = λ m. refl;
      releases = λ i. refl;
      unpromised = ends.unpromised;
      budgets = λ i other. ends.budgets i other ∙ sym (one_ends.budgets i other);
    }
      where
        ends : Ends p j n (with_job_ended p j n)
        ends = ended-ends p j n fit inside

    -- its last step there is the only one behind
    last_behind : (k : ℕ) → n ≤ k → k < steps (with_job_ended p j (n + 1)) j → k ≡ n
    last_behind k more within = omega (arith, mine_below p j (n + 1) (with_job_ended p j (n + 1)) one_ends k within)

    rest_is : (m : ℕ) → order (with_job_ended p j n) m ≡ get_or (removed j (step_at (route p j) n ∷ drop (suc n) (route p j)) p.plan.order) m []
    rest_is m = ap (λ (steps : List Step). get_or (removed j steps p.plan.order) m []) (drop-cons (route p j) n no_step less)

    one_is : (m : ℕ) → get_or (removed j (drop (suc n) (route p j)) p.plan.order) m [] ≡ order (with_job_ended p j (n + 1)) m
    one_is m = ap (λ k. get_or (removed j (drop k (route p j)) p.plan.order) m []) (sym (add-one n))

    left_out : (m : ℕ) → machine_of p j n ≡ m → IsRemovedAt (with_job_ended p j (n + 1)) j n (with_job_ended p j n) m
    left_out m here = record {
      place = found.0;
      step = n;
      behind = omega arith;
      only = λ k more visits. last_behind k more visits.within;
      stands = found.1;
      removed = record {
        within = found.1.within;
        here = found.1.job;
        is = rest_is m ∙ changed-here (without_last j) (step_at (route p j) n) (drop (suc n) (route p j)) p.plan.order m (omega (arith, in_shop, fit.counts.orders)) here ∙ ap (without_last j) (one_is m)
            ∙ last_taken j (order (with_job_ended p j (n + 1)) m) found.0 found.1.within found.1.job last;
      };
    }
      where
        in_shop : m < machines p
        in_shop = fit-machine p fit j n m (record { within = less; here = here })

        found : (a : ℕ) × Stands (with_job_ended p j (n + 1)) m a j n
        found = fit-stands (with_job_ended p j (n + 1)) fit_one j n m (visits_mine p j (n + 1) (with_job_ended p j (n + 1)) one_ends n m (omega arith) (record { within = less; here = here }))

        last : (a : ℕ) → found.0 < a → a < length (order (with_job_ended p j (n + 1)) m) → job_at (with_job_ended p j (n + 1)) m a ≢ j
        last a more within mine =
            let other = fit-place (with_job_ended p j (n + 1)) fit_one m a j in_shop within mine in
            let later : n < other.0 = stands_in_turn (with_job_ended p j (n + 1)) m found.0 a j n other.0 found.1 other.1 more in
            omega (arith, later, last_behind other.0 (omega (arith, later)) other.1.visits.within)

    untouched : (m : ℕ) → machine_of p j n ≢ m → IsLeft (with_job_ended p j (n + 1)) j n (with_job_ended p j n) m
    untouched m there = record {
      not_behind = λ (k, more, visits).
          let before : Visits p j k m = visits_before p j (n + 1) (with_job_ended p j (n + 1)) one_ends j k m visits in
          there (ap (machine_of p j) (sym (last_behind k more visits.within)) ∙ before.here);
      same = rest_is m ∙ changed-there (without_last j) (step_at (route p j) n) (drop (suc n) (route p j)) p.plan.order m there ∙ one_is m;
    }

    next_once : EndsOnce (with_job_ended p j (n + 1)) j n (with_job_ended p j n)
    next_once = record {
      ends = next_ends;
      orders = λ m. elim (cases_eq (machine_of p j n) m) [ inl here ↦ inr (left_out m here) | inr there ↦ inl (untouched m there) ];
    }

  -- what holds of the plan, and is kept where the job loses a step, holds of the plan that is left
  module _ (P : PlannedShop → Type 0) (n : ℕ) (start : P p) (step : (q r : PlannedShop) (k : ℕ) → n ≤ k → j < jobs q → IsFit q → EndsOnce q j k r → P q → P r) where
    all_lost : (k : ℕ) → n ≤ k → steps p j ≤ k → IsFit (with_job_ended p j k) × P (with_job_ended p j k)
    all_lost k more all =
        let once = first_once k all in
        (left_fit p j k fit inside (once_order p j k (with_job_ended p j k) fit once), step p (with_job_ended p j k) k more inside fit once start)

    one_lost : (k : ℕ) → n ≤ k → k < steps p j → IsFit (with_job_ended p j (k + 1)) × P (with_job_ended p j (k + 1)) → IsFit (with_job_ended p j k) × P (with_job_ended p j k)
    one_lost k more less (fit_one, holds) =
        let once = next_once k less fit_one in (
          left_fit p j k fit inside (once_order (with_job_ended p j (k + 1)) j k (with_job_ended p j k) fit_one once),
          step (with_job_ended p j (k + 1)) (with_job_ended p j k) k more (omega (arith, length-set p.shop.routes j (take (k + 1) (route p j)))) fit_one once holds,
        )

    lost : (d k : ℕ) → n ≤ k → steps p j ≤ k + d → IsFit (with_job_ended p j k) × P (with_job_ended p j k)
    lost zero k more enough = all_lost k more (omega arith)
    lost (suc d) k more enough = elim (cases_lt k (steps p j)) [
      | inl less ↦ one_lost k more less (lost d (k + 1) (omega arith) (omega arith))
      | inr all ↦ all_lost k more all
    ]

    pub ended_by : IsFit (with_job_ended p j n) × P (with_job_ended p j n)
    ended_by = lost (steps p j) n (omega arith) (omega arith)

  pub ended-fit : (n : ℕ) → IsFit (with_job_ended p j n)
  ended-fit n = (ended_by (λ q. Unit {0}) n tt (λ q r k more there fits once holds. tt)).0
