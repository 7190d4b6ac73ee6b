-- A job shop: its machines, and each job's route over some of them.
use Rattle.std.specs.Prelude.{◌≡◌, ◌≢◌, ℕ, suc, ◌<◌, ◌≤◌, Bool, false, if◌then◌else◌, Option, Some, None, List, [], length, sum_by, slice_index_or}
use Rattle.shop_base.specs.declared.shop.Step.{Step}
use Rattle.shop_base.specs.declared.limits.TheConstants.{MAX_JOBS, MAX_MACHINES, MAX_STEPS, MAX_NOMINAL}

-- how many machines there are, each job's route over some of them, and whether a job may visit a machine again (Pinedo, Scheduling: Jm and recrc; OR-Library, jobshop1)
pub record JobShop : Type 0 where
  pub machines : ℕ
  pub routes : List (List Step)
  pub recirculates : Bool

-- what a route has past its end
abbrev pub no_step : Step
no_step = record { machine = 0; nominal = 0 }

-- step k of a route
abbrev pub step_at : List Step → ℕ → Step
step_at route k = slice_index_or route k no_step

-- the route of a job
abbrev pub route_at : List (List Step) → ℕ → List Step
route_at routes job = slice_index_or routes job []

-- the step by which lines tell a visit of a job from its others: in shops with recirculation alone
abbrev pub shown_step : JobShop → ℕ → Option ℕ
shown_step shop k = if shop.recirculates then Some k else None

-- how many steps all routes have
abbrev pub operations_of : JobShop → ℕ
operations_of shop = sum_by length shop.routes

-- the step before step k is on the same machine
abbrev pub IsSameAgain : List Step → ℕ → Type 0
IsSameAgain route k = (i : ℕ) × (suc i ≡ k) × ((step_at route i).machine ≡ (step_at route k).machine)

-- no earlier step is on the machine of step k
abbrev pub IsFirstVisit : List Step → ℕ → Type 0
IsFirstVisit route k = (i : ℕ) → i < k → (step_at route i).machine ≢ (step_at route k).machine

-- step k is on a machine of the shop, on another one than the step before it and, without recirculation, than any step before it, and its nominal time is within the limit
pub record IsSoundStep (machines : ℕ) (again : Bool) (route : List Step) (k : ℕ) : Type 0 where
  pub in_range : (step_at route k).machine < machines
  pub elsewhere : IsSameAgain route k → ⊥
  pub first_visit : again ≡ false → IsFirstVisit route k
  pub nominal : (step_at route k).nominal ≤ MAX_NOMINAL

-- a route has a step, no more than it may have, and all its steps are sound
pub record IsRoute (machines : ℕ) (again : Bool) (route : List Step) : Type 0 where
  pub visits_some : 0 < length route
  pub few_steps : length route ≤ MAX_STEPS
  pub steps : (k : ℕ) → k < length route → IsSoundStep machines again route k

-- there are jobs and machines, and no more than the limits
pub record AreCounts (machines : ℕ) (jobs : ℕ) : Type 0 where
  pub some_job : 0 < jobs
  pub few_jobs : jobs ≤ MAX_JOBS
  pub some_machine : 0 < machines
  pub few_machines : machines ≤ MAX_MACHINES

-- a job shop within the limits
pub record IsShop (shop : JobShop) : Type 0 where
  pub counts : AreCounts shop.machines (length shop.routes)
  pub routes : (job : ℕ) → job < length shop.routes → IsRoute shop.machines shop.recirculates (route_at shop.routes job)
