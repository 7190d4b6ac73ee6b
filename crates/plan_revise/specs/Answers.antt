-- What the parts of a change answer.
use Rattle.plan_revise.specs.Fits.{IsRevision}
use Rattle.std.specs.Prelude.{[], ◌∷◌, ◌++◌, ◌≡◌, ℕ, ◌<◌, ◌≤◌, List, Option, MatchOption, take, slice_get, slice_index, length, Some}
use Rattle.shop_base.specs.declared.limits.TheConstants.{MAX_JOBS, MAX_RELEASE, MAX_MOMENT}
use Rattle.shop_base.specs.declared.shop.Step.{Step}
use Rattle.shop_base.specs.Shop.{IsRoute}
use Rattle.shop_base.specs.Plan.{PlannedShop, jobs, machines, route, steps, order, Visits}
use Rattle.plan_revise.specs.declared.change.ChangeFault.{ChangeFault}
use Rattle.plan_revise.specs.declared.change.ChangeFault.TheVariants.{TooManyMachines, Locks}
use Rattle.plan_revise.specs.declared.change.Refusal.{Refusal}
use Rattle.plan_revise.specs.declared.change.Refusal.TheVariants.{Fault, Memory}
use Rattle.plan_revise.specs.declared.change.Change.{Change}
use Rattle.plan_revise.specs.declared.change.NotRevised.{NotRevised}
use Rattle.plan_revise.specs.declared.change.NotRevised.TheVariants.{Refused, Memory as NoMemory}
use Rattle.plan_revise.specs.Revised.{IsFirstRefused}
use Rattle.plan_revise.specs.Settings.{RevisionSetting, moves_made, OperationGoesOn}
use Rattle.plan_revise.specs.Aside.{HasRoom}
use Rattle.plan_revise.specs.AnotherWay.{LocksEverywhere, AreFurthestBehind}

-- the fault that is answered, unless memory ran out, is one of these
abbrev pub UnlessMemory : (ChangeFault → Type 0) → Refusal → Type 0
UnlessMemory Is (Fault fault) = Is fault
UnlessMemory Is Memory = Unit {0}

-- job j is outside, and there is no room for a machine more
abbrev pub IsNoRoom : RevisionSetting → PlannedShop → ℕ → ChangeFault → Type 0
IsNoRoom s p j fault = (fault ≡ TooManyMachines) × (moves_made s j ≡ 0) × (HasRoom s p → ⊥)

-- job j is outside and has machine m ahead, and there is no room for a machine more
abbrev pub IsNoRoomFor : RevisionSetting → PlannedShop → ℕ → ℕ → ChangeFault → Type 0
IsNoRoomFor s p j m fault = IsNoRoom s p j fault × (k : ℕ) × Visits p j k m

-- job j can make this step behind its others
pub record IsSendable (s : RevisionSetting) (p : PlannedShop) (j : ℕ) (step : Step) : Type 0 where
  pub revision : IsRevision s p
  pub inside : j < jobs p
  pub here : moves_made s j ≤ steps p j
  pub sound : IsRoute s.plant p.shop.recirculates (route p j ++ step ∷ [])

-- there is such a job, and such a place in the order of the step's machine
pub record HasPlace (p : PlannedShop) (j : ℕ) (step : Step) (a : ℕ) : Type 0 where
  pub inside : j < jobs p
  pub in_shop : step.machine < machines p
  pub rows : length p.plan.order ≡ machines p
  pub within : a ≤ length (order p step.machine)

-- wherever the step goes, there is a cycle
abbrev pub IsLock : RevisionSetting → PlannedShop → ℕ → Step → ChangeFault → Type 0
IsLock s p j step fault = (fault ≡ Locks) × LocksEverywhere s p j step

-- the first of these steps that can't be placed locks wherever it goes
pub record IsLockAmong (s : RevisionSetting) (p : PlannedShop) (j : ℕ) (steps : List Step) (fault : ChangeFault) : Type 0 where
  pub is : fault ≡ Locks
  pub count : ℕ
  pub reached : PlannedShop
  pub before : AreFurthestBehind s p j (take count steps) reached
  pub step : Step
  pub there : slice_get steps count ≡ Some step
  pub locks : LocksEverywhere s reached j step

-- this is the first place of an order that is behind so many entries and behind all places of job j
pub record IsFirstBehind (order : List ℕ) (j entered place : ℕ) : Type 0 where
  pub behind_entries : entered ≤ place
  pub behind_own : (b : ℕ) → b < length order → slice_index order b ≡ j → b < place
  pub first : (a : ℕ) → entered ≤ a → ((b : ℕ) → b < length order → slice_index order b ≡ j → b < a) → place ≤ a

-- this is the job whose operation goes on on machine m
abbrev pub IsWorker : RevisionSetting → ℕ → Option ℕ → Type 0
IsWorker s m job = MatchOption job ((j k : ℕ) → OperationGoesOn s j k m → ⊥) (λ j. (k : ℕ) × OperationGoesOn s j k m)

-- a job with these steps, this release and this budget can be added
pub record AreFitFor (s : RevisionSetting) (p : PlannedShop) (steps : List Step) (release budget : ℕ) : Type 0 where
  pub few_jobs : jobs p < MAX_JOBS
  pub sound : IsRoute s.plant p.shop.recirculates steps
  pub release_in_range : release ≤ MAX_RELEASE
  pub budget_in_range : budget ≤ MAX_MOMENT

-- what is answered of a refusal of the change at place n
abbrev pub refused_at : ℕ → Refusal → NotRevised
refused_at n (Fault fault) = Refused n fault
refused_at n Memory = NoMemory

-- the answer says the first of the changes that can't be, unless memory ran out
abbrev pub ParsesFirst : RevisionSetting → PlannedShop → List Change → NotRevised → Type 0
ParsesFirst s p changes (Refused n fault) = IsFirstRefused s p changes n fault
ParsesFirst s p changes NoMemory = Unit {0}
