-- Why a change can't be: the first reason.
use Rattle.std.specs.Prelude.{◌≡◌, ℕ, ◌-◌, ◌<◌, ◌≤◌, List, Option, take, slice_get, Some}
use Rattle.shop_base.specs.declared.limits.TheConstants.{MAX_JOBS, MAX_NOMINAL, MAX_RELEASE, MAX_MOMENT}
use Rattle.shop_base.specs.declared.shop.Step.{Step}
use Rattle.shop_base.specs.Shop.{IsRoute}
use Rattle.shop_base.specs.Plan.{PlannedShop, jobs, Visits}
use Rattle.shop_base.specs.Cell.{since, IsFree}
use Rattle.orlib_read.specs.declared.or_fault.OrFault.{OrFault}
use Rattle.orlib_read.specs.Kinds.{first_line, IsJobLine}
use Rattle.orlib_read.specs.Faults.{IsOddLine, IsWordLine}
use Rattle.plan_revise.specs.declared.change.Change.{Change}
use Rattle.plan_revise.specs.declared.change.Change.TheVariants.{Until, Add, Scrap, Down, Route, Release, Budget, Hold}
use Rattle.plan_revise.specs.declared.change.ChangeFault.{ChangeFault}
use Rattle.plan_revise.specs.declared.change.ChangeFault.TheVariants.{MachineOutOfRange, Idle, Occupied, TooSoon, NominalTooLarge, OddWords, BadNumber, TooManyJobs, ReleaseTooLarge, BudgetTooLarge, JobOutOfRange, JobGone, JobAside, JobArrived, TooManyMachines, Locks}
use Rattle.plan_revise.specs.Promises.{no_promise}
use Rattle.plan_revise.specs.Settings.{RevisionSetting, moves_made, HasLeftCell, HasArrived, OperationGoesOn}
use Rattle.plan_revise.specs.Aside.{IsPutAside, IsInLine, CanGoOn, HasRoom}
use Rattle.plan_revise.specs.Ended.{with_job_ended}
use Rattle.plan_revise.specs.AnotherWay.{LocksEverywhere, AreFurthestBehind, way_on}
use Rattle.plan_revise.specs.Routes.{IsRouteFault}
use Rattle.plan_revise.specs.Changes.{given_or}

-- the words aren't those of a job's line
abbrev pub IsJobLineFault : List ℕ → ChangeFault → Type 0
IsJobLineFault words OddWords = (fault : OrFault) × IsOddLine (first_line words) fault
IsJobLineFault words BadNumber = (fault : OrFault) × IsWordLine (first_line words) fault
IsJobLineFault words fault = ⊥

module _ (s : RevisionSetting) (p : PlannedShop) where
  -- an operation can't last until a moment
  abbrev pub IsUntilFault : ℕ → ℕ → ChangeFault → Type 0
  IsUntilFault machine to MachineOutOfRange = s.plant ≤ machine
  IsUntilFault machine to Idle = (machine < s.plant) × ((j k : ℕ) → OperationGoesOn s j k machine → ⊥)
  IsUntilFault machine to TooSoon = (machine < s.plant) × (j : ℕ) × (k : ℕ) × OperationGoesOn s j k machine × (to < s.present)
  IsUntilFault machine to NominalTooLarge = (machine < s.plant) × (j : ℕ) × (k : ℕ) × OperationGoesOn s j k machine × (s.present ≤ to) × (MAX_NOMINAL < to - since s.cell j)
  IsUntilFault machine to fault = ⊥

  -- a job with these steps can't be added: there are too many jobs, or the steps are no route over the machines of the plant, or its release or its budget is over the limit
  abbrev pub IsStepsFault : List Step → ℕ → ℕ → ChangeFault → Type 0
  IsStepsFault steps release budget TooManyJobs = MAX_JOBS ≤ jobs p
  IsStepsFault steps release budget ReleaseTooLarge = (jobs p < MAX_JOBS) × IsRoute s.plant p.shop.recirculates steps × (MAX_RELEASE < release)
  IsStepsFault steps release budget BudgetTooLarge = (jobs p < MAX_JOBS) × IsRoute s.plant p.shop.recirculates steps × (release ≤ MAX_RELEASE) × (MAX_MOMENT < budget)
  IsStepsFault steps release budget fault = (jobs p < MAX_JOBS) × IsRouteFault s.plant p.shop.recirculates steps fault

  -- these words are read as steps that can't be added
  pub record IsAddedStepsFault (words : List ℕ) (release budget : ℕ) (fault : ChangeFault) : Type 0 where
    pub steps : List Step
    pub written : IsJobLine (first_line words) steps
    pub wrong : IsStepsFault steps release budget fault

  -- a job can't be added
  abbrev pub IsAddFault : List ℕ → Option ℕ → Option ℕ → ChangeFault → Type 0
  IsAddFault words release budget OddWords = IsJobLineFault words OddWords
  IsAddFault words release budget BadNumber = IsJobLineFault words BadNumber
  IsAddFault words release budget fault = IsAddedStepsFault words (given_or release s.present) (given_or budget no_promise) fault

  -- job j isn't there: there is no such job, or it has left
  abbrev pub IsThereFault : ℕ → ChangeFault → Type 0
  IsThereFault j JobOutOfRange = jobs p ≤ j
  IsThereFault j JobGone = (j < jobs p) × HasLeftCell s p j
  IsThereFault j fault = ⊥

  -- a job can't be scrapped
  abbrev pub IsScrapFault : ℕ → ChangeFault → Type 0
  IsScrapFault j TooManyMachines = (j < jobs p) × (moves_made s j ≡ 0) × (HasRoom s p → ⊥)
  IsScrapFault j fault = IsThereFault j fault

  -- a job outside has the machine ahead, and can't be put aside
  pub record IsWithoutRoom (machine : ℕ) : Type 0 where
    pub in_plant : machine < s.plant
    pub job : ℕ
    pub step : ℕ
    pub outside : moves_made s job ≡ 0
    pub visits : Visits p job step machine
    pub no_room : HasRoom s p → ⊥

  -- a machine can't be down
  abbrev pub IsDownFault : ℕ → ChangeFault → Type 0
  IsDownFault machine MachineOutOfRange = s.plant ≤ machine
  IsDownFault machine TooManyMachines = IsWithoutRoom machine
  IsDownFault machine fault = ⊥

  -- job j isn't there, or is put aside
  abbrev pub IsOutOfLine : ℕ → ChangeFault → Type 0
  IsOutOfLine j JobAside = (j < jobs p) × (HasLeftCell s p j → ⊥) × IsPutAside s.plant p j
  IsOutOfLine j fault = IsThereFault j fault

  -- job j can't be due at a moment
  abbrev pub IsReleaseFault : ℕ → ℕ → ChangeFault → Type 0
  IsReleaseFault j moment JobArrived = IsInLine s p j × HasArrived s j
  IsReleaseFault j moment ReleaseTooLarge = IsInLine s p j × (HasArrived s j → ⊥) × (MAX_RELEASE < moment)
  IsReleaseFault j moment fault = IsOutOfLine j fault

  -- a moment can't be job j's promise
  abbrev pub IsBudgetFault : ℕ → ℕ → ChangeFault → Type 0
  IsBudgetFault j moment BudgetTooLarge = IsInLine s p j × (MAX_MOMENT < moment)
  IsBudgetFault j moment fault = IsOutOfLine j fault

  -- job j is in the cell, and on the way of these steps, which is a route over the machines of the plant, there is a first step that locks wherever it goes
  pub record LocksOnWay (j : ℕ) (steps : List Step) : Type 0 where
    pub sound : IsRoute s.plant p.shop.recirculates (way_on s p j steps)
    pub inside : 0 < moves_made s j
    pub count : ℕ
    pub reached : PlannedShop
    pub before : AreFurthestBehind s (with_job_ended p j (moves_made s j)) j (take count steps) reached
    pub step : Step
    pub there : slice_get steps count ≡ Some step
    pub locks : LocksEverywhere s reached j step

  -- job j can't go by these steps: they are no route, or lock
  abbrev pub IsWayFault : ℕ → List Step → ChangeFault → Type 0
  IsWayFault j steps Locks = LocksOnWay j steps
  IsWayFault j steps fault = IsRouteFault s.plant p.shop.recirculates (way_on s p j steps) fault

  -- these words are read as steps by which job j can't go
  pub record IsReadWayFault (j : ℕ) (words : List ℕ) (fault : ChangeFault) : Type 0 where
    pub can : CanGoOn s p j
    pub steps : List Step
    pub written : IsJobLine (first_line words) steps
    pub wrong : IsWayFault j steps fault

  -- job j can't go on another way: it isn't there, or is on the machine behind those of the plant
  abbrev pub IsNotGoing : ℕ → ChangeFault → Type 0
  IsNotGoing j JobAside = (j < jobs p) × (HasLeftCell s p j → ⊥) × (0 < moves_made s j) × IsPutAside s.plant p j
  IsNotGoing j fault = IsThereFault j fault

  -- job j can't go another way
  abbrev pub IsRerouteFault : ℕ → List ℕ → ChangeFault → Type 0
  IsRerouteFault j words JobOutOfRange = IsNotGoing j JobOutOfRange
  IsRerouteFault j words JobGone = IsNotGoing j JobGone
  IsRerouteFault j words JobAside = IsNotGoing j JobAside
  IsRerouteFault j words OddWords = CanGoOn s p j × IsJobLineFault words OddWords
  IsRerouteFault j words BadNumber = CanGoOn s p j × IsJobLineFault words BadNumber
  IsRerouteFault j words fault = IsReadWayFault j words fault

  -- no job is on the machine of the plant, and there may be a job more
  pub record CanBeHeld (machine : ℕ) : Type 0 where
    pub in_plant : machine < s.plant
    pub free : IsFree s.given s.cell machine
    pub few_jobs : jobs p < MAX_JOBS

  -- a machine can't be held until a moment
  abbrev pub IsHoldFault : ℕ → ℕ → ChangeFault → Type 0
  IsHoldFault machine to MachineOutOfRange = s.plant ≤ machine
  IsHoldFault machine to Occupied = (machine < s.plant) × (IsFree s.given s.cell machine → ⊥)
  IsHoldFault machine to TooManyJobs = (machine < s.plant) × IsFree s.given s.cell machine × (MAX_JOBS ≤ jobs p)
  IsHoldFault machine to ReleaseTooLarge = CanBeHeld machine × (MAX_RELEASE < s.present)
  IsHoldFault machine to TooSoon = CanBeHeld machine × (s.present ≤ MAX_RELEASE) × (to < s.present)
  IsHoldFault machine to NominalTooLarge = CanBeHeld machine × (s.present ≤ MAX_RELEASE) × (s.present ≤ to) × (MAX_NOMINAL < to - s.present)
  IsHoldFault machine to fault = ⊥

  -- the change can't be, and this is the first reason
  abbrev pub IsRefusedChange : Change → ChangeFault → Type 0
  IsRefusedChange (Until machine to) fault = IsUntilFault machine to fault
  IsRefusedChange (Add words release budget) fault = IsAddFault words.now release budget fault
  IsRefusedChange (Scrap j) fault = IsScrapFault j fault
  IsRefusedChange (Down machine) fault = IsDownFault machine fault
  IsRefusedChange (Route j words) fault = IsRerouteFault j words.now fault
  IsRefusedChange (Release j moment) fault = IsReleaseFault j moment fault
  IsRefusedChange (Budget j moment) fault = IsBudgetFault j moment fault
  IsRefusedChange (Hold machine to) fault = IsHoldFault machine to fault
