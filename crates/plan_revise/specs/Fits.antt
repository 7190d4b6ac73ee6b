-- A shop and its plan between two parts of a change: all but that each route has a step.
use Rattle.std.specs.Prelude.{◌≡◌, ℕ, ◌+◌, ◌<◌, ◌≤◌, ◌⊎◌}
use Rattle.shop_base.specs.declared.limits.TheConstants.{MAX_STEPS}
use Rattle.shop_base.specs.Shop.{AreCounts, IsSoundStep}
use Rattle.shop_base.specs.Plan.{PlannedShop, jobs, machines, route, steps, machine_of, order, clean, Visits, HasCounts, IsWithinLimits, IsOrder, IsWellShaped}
use Rattle.shop_base.specs.Cell.{made, entries, IsGone}
use Rattle.shop_base.specs.Move.{IsPrefix}
use Rattle.shop_base.specs.Sound.{IsSound}
use Rattle.plan_revise.specs.Aside.{IsPlantOf}
use Rattle.plan_revise.specs.Settings.{RevisionSetting}

-- all that makes a plan well shaped, but that each route has a step
pub record IsFit (p : PlannedShop) : Type 0 where
  pub size : AreCounts (machines p) (jobs p)
  pub few_steps : (j : ℕ) → steps p j ≤ MAX_STEPS
  pub steps_sound : (j k : ℕ) → k < steps p j → IsSoundStep (machines p) p.shop.recirculates (route p j) k
  pub counts : HasCounts p
  pub limits : IsWithinLimits p
  pub orders : (m : ℕ) → m < machines p → IsOrder p m

-- the run so far is kept: the jobs that were given are there, the steps that they have entered are on the same machines, those that have left have no others, those that have entered a machine begin its order, and it has the same cleaning time
pub record IsKept (s : RevisionSetting) (p : PlannedShop) : Type 0 where
  pub jobs_there : jobs s.given ≤ jobs p
  pub entered : (j k : ℕ) → k < made s.cell j → Visits s.given j k (machine_of s.given j k) → Visits p j k (machine_of s.given j k)
  pub left : (j : ℕ) → j < jobs s.given → IsGone s.given s.cell j → steps p j ≡ steps s.given j
  pub begun : (m : ℕ) → m < machines s.given → IsPrefix (entries s.cell m) (order p m)
  pub cleaned : (m : ℕ) → clean p m ≡ clean s.given m

-- what changes make of what is given: it fits, each route has a step, the run so far is kept, and there are the machines that were given: those of the plant, and at most one behind them
pub record IsRevision (s : RevisionSetting) (p : PlannedShop) : Type 0 where
  pub fit : IsFit p
  pub some_step : (j : ℕ) → j < jobs p → 0 < steps p j
  pub kept : IsKept s p
  pub no_fewer : machines s.given ≤ machines p
  pub plant : (machines p ≡ s.plant) ⊎ (machines p ≡ s.plant + 1)

-- the plan that is given is well shaped, the cell is one of a run, the present moment isn't before its last, and these are the machines of the plant
pub record IsSetting (s : RevisionSetting) : Type 0 where
  pub shaped : IsWellShaped s.given
  pub sound : IsSound s.given s.cell
  pub present : s.cell.last ≤ s.present
  pub plant : IsPlantOf s.given s.plant
