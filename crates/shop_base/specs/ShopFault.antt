-- What is wrong first with a shop.
use Rattle.std.specs.Prelude.{◌≡◌, ℕ, ◌<◌, ◌≤◌, Bool, true, false, List, length}
use Rattle.shop_base.specs.declared.shop.Step.{Step}
use Rattle.shop_base.specs.declared.shop_fault.ShopFault.{ShopFault}
use Rattle.shop_base.specs.declared.shop_fault.ShopFault.TheVariants.{NoJobs, TooManyJobs, NoMachines, TooManyMachines, EmptyRoute, TooManySteps, MachineOutOfRange, MachineTwice, NominalTooLarge}
use Rattle.shop_base.specs.declared.limits.TheConstants.{MAX_JOBS, MAX_MACHINES, MAX_STEPS, MAX_NOMINAL}
use Rattle.shop_base.specs.Shop.{AreCounts, IsRoute, IsSoundStep, IsSameAgain, route_at, step_at}

-- the first n steps of a route are sound
abbrev pub AreSoundSteps : ℕ → Bool → List Step → ℕ → Type 0
AreSoundSteps machines again route n = (k : ℕ) → k < n → IsSoundStep machines again route k

-- the first n jobs have sound routes
abbrev pub AreRoutes : ℕ → Bool → List (List Step) → ℕ → Type 0
AreRoutes machines again routes n = (job : ℕ) → job < n → IsRoute machines again (route_at routes job)

-- the counts and all jobs before this one are sound
pub record AreSoundBefore (machines : ℕ) (again : Bool) (routes : List (List Step)) (job : ℕ) : Type 0 where
  pub in_range : job < length routes
  pub counts : AreCounts machines (length routes)
  pub before : AreRoutes machines again routes job

-- with recirculation, the route has more steps than it may have
abbrev pub IsTooLong : Bool → List Step → Type 0
IsTooLong again route = (again ≡ true) × (MAX_STEPS < length route)

-- so are the steps of the job before this one, whose route isn't too long
pub record IsStepReached (machines : ℕ) (again : Bool) (routes : List (List Step)) (job step : ℕ) : Type 0 where
  pub reached : AreSoundBefore machines again routes job
  pub in_range : step < length (route_at routes job)
  pub short : IsTooLong again (route_at routes job) → ⊥
  pub before : AreSoundSteps machines again (route_at routes job) step

-- an earlier step of the route is on the same machine
abbrev pub IsLaterVisit : List Step → ℕ → Type 0
IsLaterVisit route k = (i : ℕ) × (i < k) × ((step_at route i).machine ≡ (step_at route k).machine)

-- step k visits a machine again that it may not: with recirculation that of the step before, without it that of any earlier step
abbrev pub IsTwice : Bool → List Step → ℕ → Type 0
IsTwice true route k = IsSameAgain route k
IsTwice false route k = IsLaterVisit route k

-- this is what is wrong first with a number of machines and the routes
abbrev pub IsFirstFault : ℕ → Bool → List (List Step) → ShopFault → Type 0
IsFirstFault machines again routes NoJobs = length routes ≡ 0
IsFirstFault machines again routes TooManyJobs = MAX_JOBS < length routes
IsFirstFault machines again routes NoMachines = (0 < length routes) × (length routes ≤ MAX_JOBS) × (machines ≡ 0)
IsFirstFault machines again routes TooManyMachines = (0 < length routes) × (length routes ≤ MAX_JOBS) × (MAX_MACHINES < machines)
IsFirstFault machines again routes (EmptyRoute job) = AreSoundBefore machines again routes job × (length (route_at routes job) ≡ 0)
IsFirstFault machines again routes (TooManySteps job) = AreSoundBefore machines again routes job × IsTooLong again (route_at routes job)
IsFirstFault machines again routes (MachineOutOfRange job step) =
    IsStepReached machines again routes job step × (machines ≤ (step_at (route_at routes job) step).machine)
IsFirstFault machines again routes (MachineTwice job step) =
    IsStepReached machines again routes job step
    × ((step_at (route_at routes job) step).machine < machines)
    × IsTwice again (route_at routes job) step
IsFirstFault machines again routes (NominalTooLarge job step) =
    IsStepReached machines again routes job step
    × ((step_at (route_at routes job) step).machine < machines)
    × (IsTwice again (route_at routes job) step → ⊥)
    × (MAX_NOMINAL < (step_at (route_at routes job) step).nominal)
