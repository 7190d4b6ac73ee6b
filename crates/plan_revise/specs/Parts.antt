-- What the parts of a change leave and change, by what is read of a planned shop.
use Rattle.std.specs.Prelude.{◌≡◌, ◌≢◌, ℕ, suc, ◌<◌, ◌≤◌, ◌==◌, if◌then◌else◌, List, [], ◌∷◌, ◌++◌, take, length, replicate}
use Rattle.shop_base.specs.declared.shop.Step.{Step}
use Rattle.shop_base.specs.Shop.{IsSameAgain}
use Rattle.shop_base.specs.Plan.{PlannedShop, jobs, route, steps, machine_of, order, clean, release, budget, Visits}
use Rattle.plan_revise.specs.Promises.{no_promise}

-- how many of these steps are on machine m
abbrev pub visits_in : List Step → ℕ → ℕ
visits_in [] m = 0
visits_in (step ∷ steps) m = if step.machine == m then suc (visits_in steps m) else visits_in steps m

-- a step of job j behind its first n is on machine m
abbrev pub IsBehind : PlannedShop → ℕ → ℕ → ℕ → Type 0
IsBehind p j n m = (k : ℕ) × (n ≤ k) × Visits p j k m

-- plan p becomes plan q where job j ends behind its first n steps: its route is cut there, it has no promise, and all else but the orders is the same
pub record Ends (p : PlannedShop) (j n : ℕ) (q : PlannedShop) : Type 0 where
  pub jobs_same : jobs q ≡ jobs p
  pub mine : route q j ≡ take n (route p j)
  pub others : (i : ℕ) → i ≢ j → route q i ≡ route p i
  pub cleans : (m : ℕ) → clean q m ≡ clean p m
  pub releases : (i : ℕ) → release q i ≡ release p i
  pub unpromised : budget q j ≡ no_promise
  pub budgets : (i : ℕ) → i ≢ j → budget q i ≡ budget p i

-- plan p becomes plan q where job j, which has no route, gets one with a release and a budget: each of its visits goes last in its machine's order, no step is on the machine of the step before, and all else is the same
pub record Places (p : PlannedShop) (j : ℕ) (mine : List Step) (r b : ℕ) (q : PlannedShop) : Type 0 where
  pub none : route p j ≡ []
  pub route_is : route q j ≡ mine
  pub others : (i : ℕ) → i ≢ j → route q i ≡ route p i
  pub jobs_but : (i : ℕ) → i < jobs q → i ≢ j → i < jobs p
  pub apart : (k : ℕ) → k < length mine → IsSameAgain mine k → ⊥
  pub last : (m : ℕ) → order q m ≡ order p m ++ replicate (visits_in mine m) j
  pub cleans : (m : ℕ) → clean q m ≡ clean p m
  pub release_is : release q j ≡ r
  pub releases : (i : ℕ) → i ≢ j → release q i ≡ release p i
  pub budget_is : budget q j ≡ b
  pub budgets : (i : ℕ) → i ≢ j → budget q i ≡ budget p i

-- plan p becomes plan q where the times of its steps, and nothing else, may change
pub record Lasts (p q : PlannedShop) : Type 0 where
  pub jobs_same : jobs q ≡ jobs p
  pub lengths : (j : ℕ) → steps q j ≡ steps p j
  pub machines_same : (j k : ℕ) → machine_of q j k ≡ machine_of p j k
  pub orders : (m : ℕ) → order q m ≡ order p m
  pub cleans : (m : ℕ) → clean q m ≡ clean p m
  pub releases : (j : ℕ) → release q j ≡ release p j
  pub budgets : (j : ℕ) → budget q j ≡ budget p j
