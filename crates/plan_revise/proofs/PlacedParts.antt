-- A job that is placed, one job or machine more, and a step that lasts: what is left and changed, and that the plan still fits.
use Rattle.std.proofs.Common.{◌≡◌, ◌≢◌, ℕ, zero, suc, ◌+◌, ◌-◌, ◌<◌, ◌≤◌, ◌⊎◌, inl, inr, List, [], ◌∷◌, ◌++◌, length, get_or, set, replicate, nat_eq, true, Option, None, Some, refl, sym, ap, ◌∙◌, subst, arith, length-append}
use Rattle.std.proofs.lemmas.Bool.{cases_eq, cases_lt, eq-eqb, ne_eqb}
use Rattle.std.proofs.lemmas.List.{get_or-set_same, get_or-set_other, length-set, get_or_past, get_or-replicate, length-replicate, get_or-append-add, append-nil}
use Rattle.std.proofs.Math.ListN.{get_or-append}
use Rattle.shop_base.specs.declared.shop.Step.{Step}
use Rattle.shop_base.specs.declared.limits.TheConstants.{MAX_JOBS, MAX_MACHINES, MAX_STEPS, MAX_NOMINAL, MAX_RELEASE, MAX_MOMENT, MAX_CLEAN}
use Rattle.shop_base.specs.Shop.{IsRoute, IsSoundStep, step_at, no_step}
use Rattle.shop_base.specs.Plan.{PlannedShop, jobs, machines, route, steps, machine_of, nominal, order, job_at, release, budget, clean, clean_in, count_below, places_before, HasCleanCount, Visits, Stands, IsOrder}
use Rattle.shop_base.specs.ShapeFault.{IsGoodPlace, visit_count, place_count}
use Rattle.shop_base.proofs.{Visits.stands_alike, Counting.{count_same, count_grows}, Orders.{stands-place, none_missing, order_from_places}}
use Rattle.plan_revise.specs.Orders.{then_last, put_last}
use Rattle.plan_revise.specs.Placed.{placed, with_new_job, with_new_machine, with_clean_machine}
use Rattle.plan_revise.specs.Changes.{lasting}
use Rattle.plan_revise.specs.Fits.{IsFit}
use Rattle.plan_revise.specs.Parts.{visits_in, Places, Lasts}
use Rattle.plan_revise.proofs.Places.{visits_in-count, count_few, count_all, count_no, changed-length, changed-often, again-last}
use Rattle.plan_revise.proofs.Fitting.{fit-machine, fit-place}

-- no step of a route over these machines is on a machine past them
none_past : (count : ℕ) (r : List Step) (m : ℕ) → ((k : ℕ) → k < length r → (step_at r k).machine < count) → count ≤ m → visits_in r m ≡ 0
none_past count r m in_range past = visits_in-count r m ∙ count_no (λ i. nat_eq (step_at r i).machine m) (length r) (λ i less. ne_eqb (step_at r i).machine m (λ same. omega (arith, in_range i less, same)))

module _ (p : PlannedShop) (j : ℕ) (r : List Step) (first last : ℕ) (fit : IsFit p) (inside : j < jobs p) (none : route p j ≡ []) (is_route : IsRoute (machines p) p.shop.recirculates r) where
  -- what is left and changed
  pub placed-places : Places p j r first last (placed p j r first last)
  placed-places = record {
    none = none;
    route_is = get_or-set_same p.shop.routes j r [] inside;
    others = λ i other. get_or-set_other p.shop.routes j i r [] other;
    jobs_but = λ i within other. omega (arith, length-set p.shop.routes j r);
    apart = λ k within. (is_route.steps k within).elsewhere;
    last = λ m. elim (cases_lt m (machines p)) [
      | inl here ↦ changed-often (then_last j) r p.plan.order m (omega (arith, fit.counts.orders)) ∙ again-last j (visits_in r m) (order p m)
      | inr past ↦ get_or_past (put_last j r p.plan.order) m [] (omega (arith, changed-length (then_last j) r p.plan.order, fit.counts.orders))
          ∙ sym (ap (λ n. order p m ++ replicate n j) (none_past (machines p) r m (λ k less. (is_route.steps k less).in_range) past) ∙ append-nil (order p m) ∙ get_or_past p.plan.order m [] (omega (arith, fit.counts.orders)))
    ];
    cleans = λ m. refl;
    release_is = get_or-set_same p.plan.release j first 0 (omega (arith, fit.counts.releases));
    releases = λ i other. get_or-set_other p.plan.release j i first 0 other;
    budget_is = get_or-set_same p.plan.budget j last 0 (omega (arith, fit.counts.budgets));
    budgets = λ i other. get_or-set_other p.plan.budget j i last 0 other;
  }

  -- the plan that is made
  abbrev placed_plan : PlannedShop
  placed_plan = placed p j r first last

  -- it is in no order of before
  not_visited : (m a : ℕ) → m < machines p → a < length (order p m) → job_at p m a ≢ j
  not_visited m a here within mine = let found = fit-place p fit m a j here within mine in omega (arith, found.1.visits.within, ap length none)

  module _ (m : ℕ) (here : m < machines p) where
    size : length (order placed_plan m) ≡ length (order p m) + visits_in r m
    size = ap length (placed-places.last m) ∙ length-append (order p m) (replicate (visits_in r m) j) ∙ ap (λ n. length (order p m) + n) (length-replicate (visits_in r m) j)

    front : (a : ℕ) → a < length (order p m) → job_at placed_plan m a ≡ job_at p m a
    front a less = ap (λ (xs : List ℕ). get_or xs a 0) (placed-places.last m) ∙ get_or-append (order p m) (replicate (visits_in r m) j) 0 a less

    mine_at : (n : ℕ) → n < visits_in r m → job_at placed_plan m (length (order p m) + n) ≡ j
    mine_at n less =
        ap (λ (xs : List ℕ). get_or xs (length (order p m) + n) 0) (placed-places.last m) ∙ get_or-append-add (order p m) (replicate (visits_in r m) j) n 0 ∙ get_or-replicate (visits_in r m) n j 0 less

    count_mine : visit_count placed_plan m j ≡ visits_in r m
    count_mine = ap (λ (s : List Step). count_below (λ i. nat_eq (step_at s i).machine m) (length s)) placed-places.route_is ∙ sym (visits_in-count r m)

    count_other : (i : ℕ) → i ≢ j → visit_count placed_plan m i ≡ visit_count p m i
    count_other i other = ap (λ (s : List Step). count_below (λ k. nat_eq (step_at s k).machine m) (length s)) (placed-places.others i other)

    turn_front : (i a : ℕ) → a ≤ length (order p m) → places_before placed_plan m i a ≡ places_before p m i a
    turn_front i a few = count_same (λ b. nat_eq (job_at placed_plan m b) i) (λ b. nat_eq (job_at p m b) i) a (λ b less. ap (λ x. nat_eq x i) (front b (omega arith)))

    none_before : places_before placed_plan m j (length (order p m)) ≡ 0
    none_before = count_no (λ b. nat_eq (job_at placed_plan m b) j) (length (order p m)) (λ b less. ne_eqb (job_at placed_plan m b) j (λ mine. not_visited m b here less (sym (front b less) ∙ mine)))

    good : (a : ℕ) → a < length (order placed_plan m) → IsGoodPlace placed_plan m a
    good a within = elim (cases_lt a (length (order p m))) [ inl less ↦ of_before less | inr more ↦ of_mine more ]
      where
        of_before : a < length (order p m) → IsGoodPlace placed_plan m a
        of_before less =
            let i : ℕ = job_at p m a in
            let found = fit-place p fit m a i here less refl in
            let old : places_before p m i a < visit_count p m i = stands-place p m a found.0 found.1 in
            let new : places_before placed_plan m i a < visit_count placed_plan m i = omega (arith, old, turn_front i a (omega arith), count_other i (not_visited m a here less)) in
            subst (λ i. places_before placed_plan m i a < visit_count placed_plan m i) (sym (front a less)) new

        of_mine : length (order p m) ≤ a → IsGoodPlace placed_plan m a
        of_mine more =
            let n : ℕ = a - length (order p m) in
            let there : length (order p m) + n ≡ a = omega arith in
            let mine : job_at placed_plan m a ≡ j = ap (job_at placed_plan m) (sym there) ∙ mine_at n (omega (arith, size)) in
            let few : places_before placed_plan m j (length (order p m) + n) ≤ places_before placed_plan m j (length (order p m)) + n = count_few (λ b. nat_eq (job_at placed_plan m b) j) (length (order p m)) n in
            subst (λ i. places_before placed_plan m i a < visit_count placed_plan m i) (sym mine)
            (omega (arith, few, ap (places_before placed_plan m j) there, none_before, count_mine, size, within))

    enough : (i : ℕ) → visit_count placed_plan m i ≤ place_count placed_plan m i
    enough i = elim (cases_eq i j) [ inl mine ↦ subst (λ i. visit_count placed_plan m i ≤ place_count placed_plan m i) (sym mine) own | inr other ↦ of_other other ]
      where
        own : visit_count placed_plan m j ≤ place_count placed_plan m j
        own = omega (arith, count_mine, ap (places_before placed_plan m j) size, count_all (λ b. nat_eq (job_at placed_plan m b) j) (length (order p m)) (visits_in r m) pass)
          where
            pass : (b : ℕ) → length (order p m) ≤ b → b < length (order p m) + visits_in r m → nat_eq (job_at placed_plan m b) j ≡ true
            pass b more less =
                let there : length (order p m) + (b - length (order p m)) ≡ b = omega arith in
                eq-eqb (job_at placed_plan m b) j (ap (job_at placed_plan m) (sym there) ∙ mine_at (b - length (order p m)) (omega arith))

        of_other : i ≢ j → visit_count placed_plan m i ≤ place_count placed_plan m i
        of_other other =
            omega (
              arith,
              count_other i other,
              none_missing p m i (fit.orders m here),
              turn_front i (length (order p m)) (omega arith),
              count_grows (λ b. nat_eq (job_at placed_plan m b) i) (length (order p m)) (length (order placed_plan m)) (omega (arith, size)),
            )

    order_placed : IsOrder placed_plan m
    order_placed = order_from_places placed_plan m good (λ i there. enough i)

  pub placed-fit : first ≤ MAX_RELEASE → last ≤ MAX_MOMENT → IsFit (placed p j r first last)
  placed-fit early in_range = record {
    size = rw length-set fit.size;
    few_steps = few_still;
    steps_sound = λ i k within. sound_still i k within;
    counts = record {
      releases = length-set p.plan.release j first ∙ fit.counts.releases ∙ sym (length-set p.shop.routes j r);
      budgets = length-set p.plan.budget j last ∙ fit.counts.budgets ∙ sym (length-set p.shop.routes j r);
      orders = changed-length (then_last j) r p.plan.order ∙ fit.counts.orders;
      cleanings = fit.counts.cleanings;
    };
    limits = record {
      releases = λ i within. release_still i (omega (arith, length-set p.shop.routes j r));
      budgets = λ i within. budget_still i (omega (arith, length-set p.shop.routes j r));
      cleanings = fit.limits.cleanings;
    };
    orders = order_placed;
  }
    where
      few_still : (i : ℕ) → steps (placed p j r first last) i ≤ MAX_STEPS
      few_still i = elim (cases_eq i j) [
        | inl same ↦ omega (arith, ap (steps (placed p j r first last)) same, ap length placed-places.route_is, is_route.few_steps)
        | inr other ↦ omega (arith, ap length (placed-places.others i other), fit.few_steps i)
      ]

      sound_still : (i k : ℕ) → k < steps (placed p j r first last) i → IsSoundStep (machines p) p.shop.recirculates (route (placed p j r first last) i) k
      sound_still i k within = elim (cases_eq i j) [
        | inl same ↦ at (ap (route (placed p j r first last)) same ∙ placed-places.route_is)
        | inr other ↦ subst (λ (s : List Step). IsSoundStep (machines p) p.shop.recirculates s k) (sym (placed-places.others i other)) (fit.steps_sound i k (omega (arith, ap length (placed-places.others i other))))
      ]
        where
          at : route (placed p j r first last) i ≡ r → IsSoundStep (machines p) p.shop.recirculates (route (placed p j r first last) i) k
          at is = subst (λ (s : List Step). IsSoundStep (machines p) p.shop.recirculates s k) (sym is) (is_route.steps k (omega (arith, ap length is)))

      release_still : (i : ℕ) → i < jobs p → release (placed p j r first last) i ≤ MAX_RELEASE
      release_still i within = elim (cases_eq i j) [
        | inl same ↦ omega (arith, ap (release (placed p j r first last)) same, placed-places.release_is)
        | inr other ↦ omega (arith, placed-places.releases i other, fit.limits.releases i within)
      ]

      budget_still : (i : ℕ) → i < jobs p → budget (placed p j r first last) i ≤ MAX_MOMENT
      budget_still i within = elim (cases_eq i j) [
        | inl same ↦ omega (arith, ap (budget (placed p j r first last)) same, placed-places.budget_is)
        | inr other ↦ omega (arith, placed-places.budgets i other, fit.limits.budgets i within)
      ]

-- ---- what is read the same

-- a list with one default more is read the same
pub default_more : {A : Type 0} (xs : List A) (d : A) (i : ℕ) → get_or (xs ++ d ∷ []) i d ≡ get_or xs i d
default_more [] d zero = refl
default_more [] d (suc i) = refl
default_more (x ∷ xs) d zero = refl
default_more (x ∷ xs) d (suc i) = default_more xs d i

-- the same visits, and the same orders
pub record SameVisits (p q : PlannedShop) : Type 0 where
  pub lengths : (j : ℕ) → steps q j ≡ steps p j
  pub machines_same : (j k : ℕ) → machine_of q j k ≡ machine_of p j k
  pub orders : (m : ℕ) → order q m ≡ order p m

module _ (p q : PlannedShop) (same : SameVisits p q) where
  pub same-visits : (j k m : ℕ) → Visits p j k m → Visits q j k m
  same-visits j k m visits = record { within = omega (arith, same.lengths j, visits.within); here = same.machines_same j k ∙ visits.here }

  pub same-visits_back : (j k m : ℕ) → Visits q j k m → Visits p j k m
  same-visits_back j k m visits = record { within = omega (arith, same.lengths j, visits.within); here = sym (same.machines_same j k) ∙ visits.here }

  same-at : (m a : ℕ) → job_at q m a ≡ job_at p m a
  same-at m a = ap (λ (xs : List ℕ). get_or xs a 0) (same.orders m)

  pub same-stands : (m a j k : ℕ) → Stands p m a j k → Stands q m a j k
  same-stands m a j k stands = stands_alike p q m a j k stands (omega (arith, ap length (same.orders m), stands.within))
      (λ b before. same-at m b) (omega (arith, same.lengths j, stands.visits.within)) (λ i before. same.machines_same j i)

  pub same-stands_back : (m a j k : ℕ) → Stands q m a j k → Stands p m a j k
  same-stands_back m a j k stands = stands_alike q p m a j k stands (omega (arith, ap length (same.orders m), stands.within))
      (λ b before. sym (same-at m b)) (omega (arith, same.lengths j, stands.visits.within)) (λ i before. sym (same.machines_same j i))

  pub same-order : (m : ℕ) → IsOrder p m → IsOrder q m
  same-order m old = record {
    on_route = λ a within. (let found = old.on_route a (omega (arith, ap length (same.orders m))) in (found.0, subst (λ i. Stands q m a i found.0) (sym (same-at m a)) (same-stands m a (job_at p m a) found.0 found.1)));
    complete = λ j k visits. (let found = old.complete j k (same-visits_back j k m visits) in (found.0, same-stands m found.0 j k found.1));
  }

-- ---- one job more

pub with_job-same : (p : PlannedShop) → SameVisits p (with_new_job p)
with_job-same p = record {
  lengths = λ j. ap length (default_more p.shop.routes [] j);
  machines_same = λ j k. ap (λ (r : List Step). (step_at r k).machine) (default_more p.shop.routes [] j);
  orders = λ m. refl;
}

-- it is the last one, and has no route yet
pub new-inside : (p : PlannedShop) → jobs p < jobs (with_new_job p)
new-inside p = omega (arith, length-append p.shop.routes ([] ∷ []))

pub new-none : (p : PlannedShop) → route (with_new_job p) (jobs p) ≡ []
new-none p = default_more p.shop.routes [] (jobs p) ∙ get_or_past p.shop.routes (jobs p) [] (omega arith)

pub with_job-fit : (p : PlannedShop) → IsFit p → jobs p < MAX_JOBS → IsFit (with_new_job p)
with_job-fit p fit few = record {
  size = record { some_job = omega (arith, length-append p.shop.routes ([] ∷ [])); few_jobs = omega (arith, length-append p.shop.routes ([] ∷ [])); some_machine = fit.size.some_machine; few_machines = fit.size.few_machines };
  few_steps = λ j. omega (arith, ap length (default_more p.shop.routes [] j), fit.few_steps j);
  steps_sound = λ j k within. subst (λ (r : List Step). IsSoundStep (machines p) p.shop.recirculates r k) (sym (default_more p.shop.routes [] j)) (fit.steps_sound j k (omega (arith, ap length (default_more p.shop.routes [] j))));
  counts = record {
    releases = omega (arith, length-append p.plan.release (0 ∷ []), length-append p.shop.routes ([] ∷ []), fit.counts.releases);
    budgets = omega (arith, length-append p.plan.budget (0 ∷ []), length-append p.shop.routes ([] ∷ []), fit.counts.budgets);
    orders = fit.counts.orders;
    cleanings = fit.counts.cleanings;
  };
  limits = record {
    releases = λ j within. bounded p.plan.release (jobs p) MAX_RELEASE fit.counts.releases fit.limits.releases j;
    budgets = λ j within. bounded p.plan.budget (jobs p) MAX_MOMENT fit.counts.budgets fit.limits.budgets j;
    cleanings = fit.limits.cleanings;
  };
  orders = λ m here. same-order p (with_new_job p) (with_job-same p) m (fit.orders m here);
}
  where
    bounded : (xs : List ℕ) (n limit : ℕ) → length xs ≡ n → ((i : ℕ) → i < n → get_or xs i 0 ≤ limit) → (i : ℕ) → get_or (xs ++ 0 ∷ []) i 0 ≤ limit
    bounded xs n limit size within i = elim (cases_lt i n) [
      | inl less ↦ omega (arith, default_more xs 0 i, within i less)
      | inr more ↦ omega (arith, default_more xs 0 i, get_or_past xs i 0 (omega arith))
    ]

-- ---- one machine more

pub with_machine-clean : (p : PlannedShop) (m : ℕ) → clean (with_new_machine p) m ≡ clean p m
with_machine-clean p m = go p.plan.clean
  where
    go : (times : Option (List ℕ)) → clean_in (with_clean_machine times) m ≡ clean_in times m
    go None = refl
    go (Some times) = default_more times 0 m

pub with_machine-same : (p : PlannedShop) → SameVisits p (with_new_machine p)
with_machine-same p = record { lengths = λ j. refl; machines_same = λ j k. refl; orders = λ m. default_more p.plan.order [] m }

pub with_machine-fit : (p : PlannedShop) → IsFit p → machines p < MAX_MACHINES → IsFit (with_new_machine p)
with_machine-fit p fit few = record {
  size = record { some_job = fit.size.some_job; few_jobs = fit.size.few_jobs; some_machine = omega arith; few_machines = omega arith };
  few_steps = fit.few_steps;
  steps_sound = λ j k within. (let s = fit.steps_sound j k within in record { in_range = omega (arith, s.in_range); elsewhere = s.elsewhere; first_visit = s.first_visit; nominal = s.nominal });
  counts = record {
    releases = fit.counts.releases;
    budgets = fit.counts.budgets;
    orders = omega (arith, length-append p.plan.order ([] ∷ []), fit.counts.orders);
    cleanings = count p.plan.clean fit.counts.cleanings;
  };
  limits = record { releases = fit.limits.releases; budgets = fit.limits.budgets; cleanings = λ m here. cleaning m };
  orders = λ m here. elim (cases_lt m (machines p)) [
    | inl less ↦ same-order p (with_new_machine p) (with_machine-same p) m (fit.orders m less)
    | inr more ↦ unvisited m more
  ];
}
  where
    count : (times : Option (List ℕ)) → HasCleanCount times (machines p) → HasCleanCount (with_clean_machine times) (machines p + 1)
    count None is = tt
    count (Some times) is = omega (arith, length-append times (0 ∷ []), is)

    cleaning : (m : ℕ) → clean (with_new_machine p) m ≤ MAX_CLEAN
    cleaning m = elim (cases_lt m (machines p)) [
      | inl less ↦ omega (arith, with_machine-clean p m, fit.limits.cleanings m less)
      | inr more ↦ omega (arith, with_machine-clean p m, past p.plan.clean fit.counts.cleanings more)
    ]
      where
        past : (times : Option (List ℕ)) → HasCleanCount times (machines p) → machines p ≤ m → clean_in times m ≡ 0
        past None is more = refl
        past (Some times) is more = get_or_past times m 0 (omega (arith, is))

    unvisited : (m : ℕ) → machines p ≤ m → IsOrder (with_new_machine p) m
    unvisited m more = record {
      on_route = λ a within. absurd (omega (arith, empty));
      complete = λ j k visits. absurd (omega (arith, fit-machine p fit j k m (same-visits_back p (with_new_machine p) (with_machine-same p) j k m visits)));
    }
      where
        empty : length (order (with_new_machine p) m) ≡ 0
        empty = ap length (default_more p.plan.order [] m ∙ get_or_past p.plan.order m [] (omega (arith, fit.counts.orders)))

-- ---- a step that lasts

module _ (p : PlannedShop) (j k time : ℕ) (inside : j < jobs p) (within : k < steps p j) where
  mine : route (lasting p j k time) j ≡ set (route p j) k (record { machine = machine_of p j k; nominal = time })
  mine = get_or-set_same p.shop.routes j (set (route p j) k (record { machine = machine_of p j k; nominal = time })) [] inside

  others : (i : ℕ) → i ≢ j → route (lasting p j k time) i ≡ route p i
  others i other = get_or-set_other p.shop.routes j i (set (route p j) k (record { machine = machine_of p j k; nominal = time })) [] other

  pub lasting-lasts : Lasts p (lasting p j k time)
  lasting-lasts = record {
    jobs_same = length-set p.shop.routes j (set (route p j) k (record { machine = machine_of p j k; nominal = time }));
    lengths = λ i. elim (cases_eq i j) [
      | inl same ↦ ap (steps (lasting p j k time)) same ∙ ap length mine ∙ length-set (route p j) k (record { machine = machine_of p j k; nominal = time }) ∙ sym (ap (steps p) same)
      | inr other ↦ ap length (others i other)
    ];
    machines_same = λ i l. elim (cases_eq i j) [
      | inl same ↦ ap (λ i. machine_of (lasting p j k time) i l) same ∙ ap (λ (r : List Step). (step_at r l).machine) mine ∙ at l ∙ sym (ap (λ i. machine_of p i l) same)
      | inr other ↦ ap (λ (r : List Step). (step_at r l).machine) (others i other)
    ];
    orders = λ m. refl;
    cleans = λ m. refl;
    releases = λ i. refl;
    budgets = λ i. refl;
  }
    where
      at : (l : ℕ) → (step_at (set (route p j) k (record { machine = machine_of p j k; nominal = time })) l).machine ≡ machine_of p j l
      at l = elim (cases_eq l k) [
        | inl same ↦ ap (λ l. (step_at (set (route p j) k (record { machine = machine_of p j k; nominal = time })) l).machine) same
            ∙ ap (λ (s : Step). s.machine) (get_or-set_same (route p j) k (record { machine = machine_of p j k; nominal = time }) no_step within) ∙ ap (machine_of p j) (sym same)
        | inr other ↦ ap (λ (s : Step). s.machine) (get_or-set_other (route p j) k l (record { machine = machine_of p j k; nominal = time }) no_step other)
      ]

  pub lasting-same : SameVisits p (lasting p j k time)
  lasting-same = record { lengths = lasting-lasts.lengths; machines_same = lasting-lasts.machines_same; orders = lasting-lasts.orders }

  pub lasting-fit : IsFit p → time ≤ MAX_NOMINAL → IsFit (lasting p j k time)
  lasting-fit fit short = record {
    size = rw length-set fit.size;
    few_steps = λ i. omega (arith, lasting-lasts.lengths i, fit.few_steps i);
    steps_sound = λ i l less. sound i l less;
    counts = record {
      releases = fit.counts.releases ∙ sym lasting-lasts.jobs_same;
      budgets = fit.counts.budgets ∙ sym lasting-lasts.jobs_same;
      orders = fit.counts.orders;
      cleanings = fit.counts.cleanings;
    };
    limits = record {
      releases = λ i less. fit.limits.releases i (omega (arith, lasting-lasts.jobs_same));
      budgets = λ i less. fit.limits.budgets i (omega (arith, lasting-lasts.jobs_same));
      cleanings = fit.limits.cleanings;
    };
    orders = λ m here. same-order p (lasting p j k time) lasting-same m (fit.orders m here);
  }
    where
      times : (i l : ℕ) → nominal p i l ≤ MAX_NOMINAL → nominal (lasting p j k time) i l ≤ MAX_NOMINAL
      times i l old = go (cases_eq i j) (cases_eq l k)
        where
          go : (i ≡ j) ⊎ (i ≢ j) → (l ≡ k) ⊎ (l ≢ k) → nominal (lasting p j k time) i l ≤ MAX_NOMINAL
          go (inl same) (inl here) =
              omega (
                arith,
                ap (λ i. nominal (lasting p j k time) i l) same,
                ap (λ (r : List Step). (step_at r l).nominal) mine,
                ap (λ l. (step_at (set (route p j) k (record { machine = machine_of p j k; nominal = time })) l).nominal) here,
                ap (λ (s : Step). s.nominal) (get_or-set_same (route p j) k (record { machine = machine_of p j k; nominal = time }) no_step within),
              )
          go (inl same) (inr there) =
              omega (
                arith,
                ap (λ i. nominal (lasting p j k time) i l) same,
                ap (λ (r : List Step). (step_at r l).nominal) mine,
                ap (λ (s : Step). s.nominal) (get_or-set_other (route p j) k l (record { machine = machine_of p j k; nominal = time }) no_step there),
                ap (λ i. nominal p i l) same,
              )
          go (inr other) _ = omega (arith, ap (λ (r : List Step). (step_at r l).nominal) (others i other))

      sound : (i l : ℕ) → l < steps (lasting p j k time) i → IsSoundStep (machines p) p.shop.recirculates (route (lasting p j k time) i) l
      sound i l less =
          let s = fit.steps_sound i l (omega (arith, lasting-lasts.lengths i)) in
          record {
            in_range = omega (arith, lasting-lasts.machines_same i l, s.in_range);
            elsewhere = λ (h, next, same). s.elsewhere (h, next, sym (lasting-lasts.machines_same i h) ∙ same ∙ lasting-lasts.machines_same i l);
            first_visit = λ once h before same. s.first_visit once h before (sym (lasting-lasts.machines_same i h) ∙ same ∙ lasting-lasts.machines_same i l);
            nominal = times i l s.nominal;
          }
