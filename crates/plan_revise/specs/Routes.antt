-- What is wrong first with the route of a job that is added.
use Rattle.std.specs.Prelude.{◌≡◌, ℕ, ◌<◌, ◌≤◌, Bool, List, length}
use Rattle.shop_base.specs.declared.limits.TheConstants.{MAX_NOMINAL}
use Rattle.shop_base.specs.declared.shop.Step.{Step}
use Rattle.shop_base.specs.Shop.{step_at}
use Rattle.shop_base.specs.ShopFault.{AreSoundSteps, IsTwice, IsTooLong}
use Rattle.plan_revise.specs.declared.change.ChangeFault.{ChangeFault}
use Rattle.plan_revise.specs.declared.change.ChangeFault.TheVariants.{MachineOutOfRange, MachineTwice, NominalTooLarge, EmptyRoute, TooManySteps}

-- this is wrong with step k of a route over so many machines: its machine isn't one of them, or may not be visited again, or its nominal time is over the limit
abbrev pub IsStepFault : ℕ → Bool → List Step → ℕ → ChangeFault → Type 0
IsStepFault machines again route k MachineOutOfRange = machines ≤ (step_at route k).machine
IsStepFault machines again route k MachineTwice = ((step_at route k).machine < machines) × IsTwice again route k
IsStepFault machines again route k NominalTooLarge = ((step_at route k).machine < machines) × (IsTwice again route k → ⊥) × (MAX_NOMINAL < (step_at route k).nominal)
IsStepFault machines again route k fault = ⊥

-- a route isn't too long, and this is wrong with the first step that isn't sound
pub record IsFirstStepFault (machines : ℕ) (again : Bool) (route : List Step) (fault : ChangeFault) : Type 0 where
  pub short : IsTooLong again route → ⊥
  pub step : ℕ
  pub within : step < length route
  pub before : AreSoundSteps machines again route step
  pub wrong : IsStepFault machines again route step fault

-- a route has no step, or too many, or else this is wrong with its steps first
abbrev pub IsRouteFault : ℕ → Bool → List Step → ChangeFault → Type 0
IsRouteFault machines again route EmptyRoute = length route ≡ 0
IsRouteFault machines again route TooManySteps = IsTooLong again route
IsRouteFault machines again route fault = IsFirstStepFault machines again route fault
