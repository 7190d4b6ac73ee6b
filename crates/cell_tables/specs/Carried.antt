-- A cell as one of another plan: p is the plan by which it was made, q the other.
use Rattle.std.specs.Prelude.{◌≡◌, ℕ, ◌<◌, length, Option, None, false, nat_lt, if◌then◌else◌}
use Rattle.shop_base.specs.{declared.job_state.JobState.JobState, Cell.Cell, Cell.job_in, Cell.entries, Cell.cleaning}
use Rattle.shop_base.specs.Plan.{PlannedShop, jobs, machines, clean}

-- a job of which nothing was reported
abbrev pub awaited : JobState
awaited = record { made = 0; ready = false; since = 0 }

-- job j as it is in the cell; one that the plan by which it was made hasn't is awaited
abbrev pub carried_job : PlannedShop → Cell → ℕ → JobState
carried_job p c j = if nat_lt j (jobs p) then job_in c j else awaited

-- since when machine m is being cleaned; a machine without a cleaning time is clean at once
abbrev pub carried_cleaning : Cell → PlannedShop → ℕ → Option ℕ
carried_cleaning c q m = if nat_lt 0 (clean q m) then cleaning c m else None

-- the cell with the jobs and machines of the other plan, each as it is
pub record IsCarried (p : PlannedShop) (c : Cell) (q : PlannedShop) (new : Cell) : Type 0 where
  pub job_count : length new.jobs ≡ jobs q
  pub machine_count : length new.machines ≡ machines q
  pub jobs_same : (j : ℕ) → j < jobs q → job_in new j ≡ carried_job p c j
  pub entries_same : (m : ℕ) → m < machines q → entries new m ≡ entries c m
  pub cleaning_is : (m : ℕ) → m < machines q → cleaning new m ≡ carried_cleaning c q m
  pub last_same : new.last ≡ c.last
