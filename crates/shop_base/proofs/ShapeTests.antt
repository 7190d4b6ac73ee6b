-- Tests that decide whether a plan that is written out is well shaped, and whether it is a serial one.
use Rattle.std.proofs.Common.{◌≡◌, ◌∙◌, ℕ, zero, suc, false, ◌+◌, ◌<◌, ◌≤◌, List, [], length, Option, None, Some, Bool, true, not, ◌&&◌, ◌||◌, ltb, leb, eqb, Decides, refl, ap, arith, lt_of_not-le}
use Rattle.std.proofs.lemmas.Bool.Decides.{Decides-like, Decides-and, Decides-not, Decides-ltb, Decides-eqb}
use Rattle.std.proofs.lemmas.List.{get_or_past}
use Rattle.shop_base.specs.declared.shop.Step.{Step}
use Rattle.shop_base.specs.declared.limits.TheConstants.{MAX_JOBS, MAX_MACHINES, MAX_STEPS, MAX_NOMINAL, MAX_RELEASE, MAX_MOMENT, MAX_CLEAN}
use Rattle.shop_base.specs.Shop.{JobShop, step_at, route_at, IsSameAgain, IsSoundStep, IsRoute, AreCounts, IsShop}
use Rattle.shop_base.specs.Plan.{PlannedShop, jobs, machines, steps, release, budget, clean, order, job_at, Visits, Stands, HasCleanCount, HasCounts, IsWithinLimits, IsOrder, IsWellShaped}
use Rattle.shop_base.specs.Graph.{IsSerial}
use Rattle.shop_base.specs.ShopFault.{IsTwice}
use Rattle.shop_base.proofs.FirstVisits.{once-sound, sound-twice}
use Rattle.shop_base.proofs.Visits.{visits_job}
use Rattle.shop_base.proofs.CellTests.{all_below, some_below, all_below_decides, some_below_decides, leb_decides, visits_test, visits_decides}
use Rattle.shop_base.proofs.RunTests.{implies_decides}
use Rattle.shop_base.proofs.GraphTests.{stands_test, stands_decides}

abbrev machine_at : List Step → ℕ → ℕ
machine_at route k = (step_at route k).machine

-- step k is on the machine of the step before it
abbrev same_test : List Step → ℕ → Bool
same_test route zero = false
same_test route (suc i) = eqb (machine_at route i) (machine_at route (suc i))

same_decides : (route : List Step) (k : ℕ) → Decides (same_test route k) (IsSameAgain route k)
same_decides route zero = ((λ is. absurd (cc)), (λ same. absurd (omega (arith, same.1))))
same_decides route (suc i) = Decides-like (same_test route (suc i)) (λ is. (i, refl, is)) (λ same. ap (machine_at route) (omega (arith, same.1)) ∙ same.2) (Decides-eqb (machine_at route i) (machine_at route (suc i)))

abbrev twice_test : Bool → List Step → ℕ → Bool
twice_test true route k = same_test route k
twice_test false route k = some_below (λ i. eqb (machine_at route i) (machine_at route k)) k

twice_decides : (again : Bool) (route : List Step) (k : ℕ) → Decides (twice_test again route k) (IsTwice again route k)
twice_decides true route k = same_decides route k
twice_decides false route k = some_below_decides _ (λ i. machine_at route i ≡ machine_at route k) (λ i. Decides-eqb (machine_at route i) (machine_at route k)) k

abbrev step_test : ℕ → Bool → List Step → ℕ → Bool
step_test machines again route k = ltb (machine_at route k) machines && (not (twice_test again route k) && leb (step_at route k).nominal MAX_NOMINAL)

step_decides : (machines : ℕ) (again : Bool) (route : List Step) (k : ℕ) → Decides (step_test machines again route k) (IsSoundStep machines again route k)
step_decides machines again route k = Decides-like (step_test machines again route k) (λ all. once-sound machines again route k all.0 all.1.0 all.1.1) (λ sound. (sound.in_range, (sound-twice machines again route k sound, sound.nominal)))
    (Decides-and (ltb (machine_at route k) machines) _ (Decides-ltb (machine_at route k) machines)
    (Decides-and _ _ (Decides-not _ (twice_decides again route k)) (leb_decides (step_at route k).nominal MAX_NOMINAL)))

abbrev route_test : ℕ → Bool → List Step → Bool
route_test machines again route = ltb 0 (length route) && (leb (length route) MAX_STEPS && all_below (step_test machines again route) (length route))

route_decides : (machines : ℕ) (again : Bool) (route : List Step) → Decides (route_test machines again route) (IsRoute machines again route)
route_decides machines again route = Decides-like (route_test machines again route) (λ both. record { visits_some = both.0; few_steps = both.1.0; steps = both.1.1 }) (λ sound. (sound.visits_some, (sound.few_steps, sound.steps)))
    (Decides-and (ltb 0 (length route)) _ (Decides-ltb 0 (length route)) (Decides-and (leb (length route) MAX_STEPS) _ (leb_decides (length route) MAX_STEPS) (all_below_decides (step_test machines again route) (IsSoundStep machines again route) (step_decides machines again route) (length route))))

abbrev counts_test : ℕ → ℕ → Bool
counts_test machines jobs = ltb 0 jobs && (leb jobs MAX_JOBS && (ltb 0 machines && leb machines MAX_MACHINES))

counts_decides : (machines jobs : ℕ) → Decides (counts_test machines jobs) (AreCounts machines jobs)
counts_decides machines jobs = Decides-like (counts_test machines jobs) (λ all. record { some_job = all.0; few_jobs = all.1.0; some_machine = all.1.1.0; few_machines = all.1.1.1 })
    (λ counts. (counts.some_job, (counts.few_jobs, (counts.some_machine, counts.few_machines))))
    (Decides-and (ltb 0 jobs) _ (Decides-ltb 0 jobs) (Decides-and (leb jobs MAX_JOBS) _ (leb_decides jobs MAX_JOBS)
    (Decides-and (ltb 0 machines) _ (Decides-ltb 0 machines) (leb_decides machines MAX_MACHINES))))

abbrev shop_test : JobShop → Bool
shop_test shop = counts_test shop.machines (length shop.routes) && all_below (λ j. route_test shop.machines shop.recirculates (route_at shop.routes j)) (length shop.routes)

shop_decides : (shop : JobShop) → Decides (shop_test shop) (IsShop shop)
shop_decides shop = Decides-like (shop_test shop) (λ both. record { counts = both.0; routes = both.1 }) (λ sound. (sound.counts, sound.routes))
    (Decides-and (counts_test shop.machines (length shop.routes)) _ (counts_decides shop.machines (length shop.routes))
    (all_below_decides _ (λ j. IsRoute shop.machines shop.recirculates (route_at shop.routes j)) (λ j. route_decides shop.machines shop.recirculates (route_at shop.routes j)) (length shop.routes)))

abbrev cleanings_test : Option (List ℕ) → ℕ → Bool
cleanings_test None n = true
cleanings_test (Some times) n = eqb (length times) n

cleanings_decides : (o : Option (List ℕ)) (n : ℕ) → Decides (cleanings_test o n) (HasCleanCount o n)
cleanings_decides None n = ((λ _. tt), (λ _. refl))
cleanings_decides (Some times) n = Decides-eqb (length times) n

abbrev lengths_test : PlannedShop → Bool
lengths_test p = eqb (length p.plan.release) (jobs p) && (eqb (length p.plan.budget) (jobs p) && (eqb (length p.plan.order) (machines p) && cleanings_test p.plan.clean (machines p)))

lengths_decides : (p : PlannedShop) → Decides (lengths_test p) (HasCounts p)
lengths_decides p = Decides-like (lengths_test p) (λ all. record { releases = all.0; budgets = all.1.0; orders = all.1.1.0; cleanings = all.1.1.1 })
    (λ counts. (counts.releases, (counts.budgets, (counts.orders, counts.cleanings))))
    (Decides-and _ _ (Decides-eqb (length p.plan.release) (jobs p)) (Decides-and _ _ (Decides-eqb (length p.plan.budget) (jobs p))
    (Decides-and _ _ (Decides-eqb (length p.plan.order) (machines p)) (cleanings_decides p.plan.clean (machines p)))))

abbrev limits_test : PlannedShop → Bool
limits_test p = all_below (λ j. leb (release p j) MAX_RELEASE) (jobs p) && (all_below (λ j. leb (budget p j) MAX_MOMENT) (jobs p) && all_below (λ m. leb (clean p m) MAX_CLEAN) (machines p))

limits_decides : (p : PlannedShop) → Decides (limits_test p) (IsWithinLimits p)
limits_decides p = Decides-like (limits_test p) (λ all. record { releases = all.0; budgets = all.1.0; cleanings = all.1.1 }) (λ within. (within.releases, (within.budgets, within.cleanings)))
    (Decides-and _ _ (all_below_decides _ (λ j. release p j ≤ MAX_RELEASE) (λ j. leb_decides (release p j) MAX_RELEASE) (jobs p))
    (Decides-and _ _ (all_below_decides _ (λ j. budget p j ≤ MAX_MOMENT) (λ j. leb_decides (budget p j) MAX_MOMENT) (jobs p))
    (all_below_decides _ (λ m. clean p m ≤ MAX_CLEAN) (λ m. leb_decides (clean p m) MAX_CLEAN) (machines p))))

module _ (p : PlannedShop) (m : ℕ) where
  abbrev places : ℕ
  places = length (order p m)

  abbrev on_route_test : ℕ → Bool
  on_route_test a = some_below (λ k. stands_test p m a (job_at p m a) k) (steps p (job_at p m a))

  on_route_decides : (a : ℕ) → Decides (on_route_test a) ((k : ℕ) × Stands p m a (job_at p m a) k)
  on_route_decides a = Decides-like (on_route_test a) (λ some. (some.0, some.2)) (λ some. (some.0, some.1.visits.within, some.1))
      (some_below_decides _ (λ k. Stands p m a (job_at p m a) k) (λ k. stands_decides p m a (job_at p m a) k) (steps p (job_at p m a)))

  abbrev placed_test : ℕ → ℕ → Bool
  placed_test j k = not (visits_test p j k m) || some_below (λ a. stands_test p m a j k) places

  placed_decides : (j k : ℕ) → Decides (placed_test j k) (Visits p j k m → (a : ℕ) × Stands p m a j k)
  placed_decides j k = implies_decides (visits_test p j k m) _ (visits_decides p j k m)
      (Decides-like (some_below (λ a. stands_test p m a j k) places) (λ some. (some.0, some.2)) (λ some. (some.0, some.1.within, some.1))
      (some_below_decides _ (λ a. Stands p m a j k) (λ a. stands_decides p m a j k) places))

  abbrev order_test : Bool
  order_test = all_below on_route_test places && all_below (λ j. all_below (placed_test j) (steps p j)) (jobs p)

  abbrev OrderParts : Type 0
  OrderParts = ((a : ℕ) → a < places → (k : ℕ) × Stands p m a (job_at p m a) k)
      × ((j : ℕ) → j < jobs p → (k : ℕ) → k < steps p j → Visits p j k m → (a : ℕ) × Stands p m a j k)

  order_decides : Decides order_test (IsOrder p m)
  order_decides = Decides-like order_test is_order was_order
      (Decides-and _ _ (all_below_decides on_route_test _ on_route_decides places)
      (all_below_decides _ _ (λ j. all_below_decides (placed_test j) _ (placed_decides j) (steps p j)) (jobs p)))
    where
      is_order : OrderParts → IsOrder p m
      is_order (on_route, complete) = record {
        on_route = on_route;
        complete = λ j k visits. complete j (visits_job p j k m visits) k visits.within visits;
      }

      was_order : IsOrder p m → OrderParts
      was_order sound = (sound.on_route, (λ j within k inside visits. sound.complete j k visits))

abbrev pub shaped_test : PlannedShop → Bool
shaped_test p = shop_test p.shop && (lengths_test p && (limits_test p && all_below (order_test p) (machines p)))

pub shaped_decides : (p : PlannedShop) → Decides (shaped_test p) (IsWellShaped p)
shaped_decides p = Decides-like (shaped_test p) (λ all. record { shop = all.0; counts = all.1.0; limits = all.1.1.0; orders = all.1.1.1 }) (λ shaped. (shaped.shop, (shaped.counts, (shaped.limits, shaped.orders))))
    (Decides-and _ _ (shop_decides p.shop) (Decides-and _ _ (lengths_decides p) (Decides-and _ _ (limits_decides p) (all_below_decides (order_test p) (IsOrder p) (order_decides p) (machines p)))))

abbrev serial_on_test : PlannedShop → ℕ → Bool
serial_on_test p m = all_below (λ a. not (ltb (a + 1) (length (order p m))) || leb (job_at p m a) (job_at p m (a + 1))) (length (order p m))

abbrev pub serial_test : PlannedShop → Bool
serial_test p = all_below (serial_on_test p) (length p.plan.order)

abbrev IsSerialOn : PlannedShop → ℕ → Type 0
IsSerialOn p m = (a : ℕ) → a < length (order p m) → a + 1 < length (order p m) → job_at p m a ≤ job_at p m (a + 1)

pub serial_decides : (p : PlannedShop) → Decides (serial_test p) (IsSerial p)
serial_decides p = Decides-like (serial_test p) serial was_serial (all_below_decides (serial_on_test p) (IsSerialOn p) on (length p.plan.order))
  where
    on : (m : ℕ) → Decides (serial_on_test p m) (IsSerialOn p m)
    on m = all_below_decides _ (λ a. a + 1 < length (order p m) → job_at p m a ≤ job_at p m (a + 1))
        (λ a. implies_decides (ltb (a + 1) (length (order p m))) _ (Decides-ltb (a + 1) (length (order p m))) (leb_decides (job_at p m a) (job_at p m (a + 1)))) (length (order p m))

    serial : ((m : ℕ) → m < length p.plan.order → IsSerialOn p m) → IsSerial p
    serial all m a within = all m (lt_of_not-le λ past. absurd (omega (arith, ap length (get_or_past p.plan.order m [] past)))) a (omega arith) within

    was_serial : IsSerial p → (m : ℕ) → m < length p.plan.order → IsSerialOn p m
    was_serial all m inside a first within = all m a within
