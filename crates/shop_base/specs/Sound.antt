-- What holds of the cell in every run.
use Rattle.std.specs.Prelude.{◌≡◌, ℕ, ◌+◌, ◌<◌, ◌≤◌, length, Some, false}
use Rattle.shop_base.specs.declared.limits.TheConstants.{MAX_MOMENT}
use Rattle.shop_base.specs.Plan.{PlannedShop, jobs, machines, steps, order, clean, Stands}
use Rattle.shop_base.specs.Cell.{Cell, made, ready, since, entries, cleaning, IsGone, IsFree}
use Rattle.shop_base.specs.Move.{IsPrefix}

-- what holds of the cell in every run, by any controller: each fact is kept by every possible report and every possible, plan-keeping move
pub record IsSound (p : PlannedShop) (c : Cell) : Type 0 where
  pub job_count : length c.jobs ≡ jobs p
  pub machine_count : length c.machines ≡ machines p
  pub last_in_range : c.last ≤ MAX_MOMENT
  pub begun : (j : ℕ) → since c j ≤ c.last
  -- a job makes a move for each step, and its leaving
  pub few_moves : (j : ℕ) → j < jobs p → made c j ≤ steps p j + 1
  pub gone_not_ready : (j : ℕ) → IsGone p c j → ready c j ≡ false
  -- a machine was entered in its order, by exactly those jobs that have made their step on it
  pub in_order : (m : ℕ) → IsPrefix (entries c m) (order p m)
  pub entered_made : (m a j k : ℕ) → Stands p m a j k → a < length (entries c m) → k < made c j
  pub made_entered : (m a j k : ℕ) → Stands p m a j k → k < made c j → a < length (entries c m)
  -- a job that is on a machine is the last that entered it
  pub newest : (m a j k : ℕ) → Stands p m a j k → made c j ≡ k + 1 → length (entries c m) ≡ a + 1
  -- a machine that is being cleaned has a cleaning time, was entered, and holds no job
  pub cleaned_timed : (m s : ℕ) → cleaning c m ≡ Some s → 0 < clean p m
  pub cleaned_entered : (m s : ℕ) → cleaning c m ≡ Some s → 0 < length (entries c m)
  pub cleaned_free : (m s : ℕ) → cleaning c m ≡ Some s → IsFree p c m
