-- The machine of the jobs that are put aside, and a job that is put aside.
use Rattle.std.specs.Prelude.{◌≡◌, ℕ, ◌+◌, ◌<◌, ◌⊎◌, List, [], ◌∷◌, min, ◌==◌, if◌then◌else◌, length}
use Rattle.shop_base.specs.declared.limits.TheConstants.{MAX_RELEASE, MAX_MACHINES}
use Rattle.shop_base.specs.declared.shop.Step.{Step}
use Rattle.shop_base.specs.Plan.{PlannedShop, jobs, machines, steps, nominal, clean, order, Visits}
use Rattle.plan_revise.specs.Promises.{no_promise, HasNoPromise}
use Rattle.plan_revise.specs.Ended.{with_job_ended}
use Rattle.plan_revise.specs.Placed.{placed, with_new_machine}
use Rattle.plan_revise.specs.Settings.{RevisionSetting, moves_made, HasLeftCell}

-- the whole route of job j is one step that takes no time, and it has no promise
pub record IsAsideJob (p : PlannedShop) (j : ℕ) : Type 0 where
  pub whole : steps p j ≡ 1
  pub timeless : nominal p j 0 ≡ 0
  pub unpromised : HasNoPromise p j

-- machine m is that of the jobs that are put aside: the last one, which jobs visit, without a cleaning time, and each visit takes no time and is the whole route of a job without a promise
pub record IsAside (p : PlannedShop) (m : ℕ) : Type 0 where
  pub last : m + 1 ≡ machines p
  pub visited : 0 < length (order p m)
  pub uncleaned : clean p m ≡ 0
  pub visitors : (j k : ℕ) → Visits p j k m → IsAsideJob p j

-- the plant has so many machines: all but that of the jobs that are put aside, where there is one
abbrev pub IsPlant : PlannedShop → ℕ → Type 0
IsPlant p plant = IsAside p plant ⊎ ((plant ≡ machines p) × ((m : ℕ) → IsAside p m → ⊥))

-- machine m may be that of jobs that are put aside: the last one, without a cleaning time, and each visit, if there is one, takes no time and is the whole route of a job without a promise
pub record MayBeAside (p : PlannedShop) (m : ℕ) : Type 0 where
  pub last : m + 1 ≡ machines p
  pub uncleaned : clean p m ≡ 0
  pub visitors : (j k : ℕ) → Visits p j k m → IsAsideJob p j

-- the plant has so many machines: all, or all but one that may be that of the jobs that are put aside
abbrev pub IsPlantOf : PlannedShop → ℕ → Type 0
IsPlantOf p plant = (plant ≡ machines p) ⊎ MayBeAside p plant

-- job j is put aside: its first step is on the machine behind those of the plant
abbrev pub IsPutAside : ℕ → PlannedShop → ℕ → Type 0
IsPutAside plant p j = Visits p j 0 plant

-- the route of a job that is put aside: one step of time 0 on that machine
abbrev pub aside_route : ℕ → List Step
aside_route m = record { machine = m; nominal = 0 } ∷ []

module _ (s : RevisionSetting) (p : PlannedShop) where
  -- job j is in the line: it hasn't left, and isn't put aside
  pub record IsInLine (j : ℕ) : Type 0 where
    pub in_shop : j < jobs p
    pub here : HasLeftCell s p j → ⊥
    pub not_aside : IsPutAside s.plant p j → ⊥

  -- job j can go on another way: it hasn't left, and isn't in the cell on the machine behind those of the plant
  pub record CanGoOn (j : ℕ) : Type 0 where
    pub in_shop : j < jobs p
    pub here : HasLeftCell s p j → ⊥
    pub off_aside : 0 < moves_made s j → IsPutAside s.plant p j → ⊥

  -- with the machine of the jobs that are put aside, which is brought in where there is none
  abbrev pub with_aside : PlannedShop
  with_aside = if machines p == s.plant then with_new_machine p else p

  -- there is that machine, or a shop may have one more
  abbrev pub HasRoom : Type 0
  HasRoom = machines p ≡ s.plant → s.plant < MAX_MACHINES

  -- job j, which is outside, is put aside: it is taken out of all orders, and goes last on that machine, released at the present moment
  abbrev pub put_aside : ℕ → PlannedShop
  put_aside j = placed (with_job_ended with_aside j 0) j (aside_route s.plant) (min s.present MAX_RELEASE) no_promise
