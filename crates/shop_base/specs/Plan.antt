-- A plan for a shop: releases, budgets, orders and cleaning times, and when it is well shaped.
use Rattle.std.specs.Prelude.{◌≡◌, ℕ, zero, suc, ◌+◌, ◌<◌, ◌≤◌, List, [], length, slice_index, slice_index_or, Option, None, Some, Bool, nat_eq, cond}
use Rattle.shop_base.specs.declared.shop.Step.{Step}
use Rattle.shop_base.specs.declared.limits.TheConstants.{MAX_RELEASE, MAX_MOMENT, MAX_CLEAN}
use Rattle.shop_base.specs.Shop.{JobShop, IsShop, route_at, step_at}

-- what a planner gives: for each job a release and a budget, for each machine an order of jobs and, in a plan with cleaning, a cleaning time
pub record ShopPlan : Type 0 where
  pub release : List ℕ
  pub budget : List ℕ
  pub order : List (List ℕ)
  pub clean : Option (List ℕ)

-- a shop, and a plan for it
pub record PlannedShop : Type 0 where
  pub shop : JobShop
  pub plan : ShopPlan

-- how many of the numbers below n pass a test
abbrev pub count_below : (ℕ → Bool) → ℕ → ℕ
count_below f zero = 0
count_below f (suc n) = count_below f n + cond (f n) 1 0

-- the cleaning time of machine m, 0 in a plan without cleaning
abbrev pub clean_in : Option (List ℕ) → ℕ → ℕ
clean_in None m = 0
clean_in (Some times) m = slice_index times m

-- there is a cleaning time for each of n machines, or for none
abbrev pub HasCleanCount : Option (List ℕ) → ℕ → Type 0
HasCleanCount None n = Unit {0}
HasCleanCount (Some times) n = length times ≡ n

module _ (p : PlannedShop) where
  -- the number of jobs
  abbrev pub jobs : ℕ
  jobs = length p.shop.routes

  -- the number of machines
  abbrev pub machines : ℕ
  machines = p.shop.machines

  -- the route of job j
  abbrev pub route : ℕ → List Step
  route j = route_at p.shop.routes j

  -- the number of its steps
  abbrev pub steps : ℕ → ℕ
  steps j = length (route j)

  -- the machine of its step k
  abbrev pub machine_of : ℕ → ℕ → ℕ
  machine_of j k = (step_at (route j) k).machine

  -- the longest that this step should take
  abbrev pub nominal : ℕ → ℕ → ℕ
  nominal j k = (step_at (route j) k).nominal

  -- the latest moment at which job j arrives (Pinedo, Scheduling: r_j)
  abbrev pub release : ℕ → ℕ
  release j = slice_index p.plan.release j

  -- the moment by which it has to be out of the cell
  abbrev pub budget : ℕ → ℕ
  budget j = slice_index p.plan.budget j

  -- the jobs of machine m, as they are to enter it
  abbrev pub order : ℕ → List ℕ
  order m = slice_index_or p.plan.order m []

  -- the job at place a of that order
  abbrev pub job_at : ℕ → ℕ → ℕ
  job_at m a = slice_index (order m) a

  -- how long machine m is cleaned after each departure
  abbrev pub clean : ℕ → ℕ
  clean m = clean_in p.plan.clean m

  -- step k of job j is on machine m
  pub record Visits (j k m : ℕ) : Type 0 where
    pub within : k < steps j
    pub here : machine_of j k ≡ m

  -- how often job j visits machine m before its step k
  abbrev pub visits_before : ℕ → ℕ → ℕ → ℕ
  visits_before j m k = count_below (λ i. nat_eq (machine_of j i) m) k

  -- how often it stands before place a of that machine's order
  abbrev pub places_before : ℕ → ℕ → ℕ → ℕ
  places_before m j a = count_below (λ b. nat_eq (job_at m b) j) a

  -- and job j stands at place a of that machine's order, for this visit: before it as often as the job visits the machine before
  pub record Stands (m a j k : ℕ) : Type 0 where
    pub within : a < length (order m)
    pub job : job_at m a ≡ j
    pub visits : Visits j k m
    pub turn : places_before m j a ≡ visits_before j m k

  -- each list of the plan has its length
  pub record HasCounts : Type 0 where
    pub releases : length p.plan.release ≡ jobs
    pub budgets : length p.plan.budget ≡ jobs
    pub orders : length p.plan.order ≡ machines
    pub cleanings : HasCleanCount p.plan.clean machines

  -- its times are within the limits
  pub record IsWithinLimits : Type 0 where
    pub releases : (j : ℕ) → j < jobs → release j ≤ MAX_RELEASE
    pub budgets : (j : ℕ) → j < jobs → budget j ≤ MAX_MOMENT
    pub cleanings : (m : ℕ) → m < machines → clean m ≤ MAX_CLEAN

  -- the order of machine m has each job as often as it visits the machine
  pub record IsOrder (m : ℕ) : Type 0 where
    pub on_route : (a : ℕ) → a < length (order m) → (k : ℕ) × Stands m a (job_at m a) k
    pub complete : (j k : ℕ) → Visits j k m → (a : ℕ) × Stands m a j k

  -- the plan is well shaped for its shop
  pub record IsWellShaped : Type 0 where
    pub shop : IsShop p.shop
    pub counts : HasCounts
    pub limits : IsWithinLimits
    pub orders : (m : ℕ) → m < machines → IsOrder m
