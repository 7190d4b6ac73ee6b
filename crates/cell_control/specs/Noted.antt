-- Due moments of some of a cell's jobs and machines.
use Rattle.std.specs.Prelude.{◌≡◌, ℕ, ◌+◌, ◌<◌, List, length, Option}
use Rattle.shop_base.specs.{Plan.PlannedShop, Plan.jobs, Plan.machines, Cell.Cell, Cell.job_in, Cell.cleaning}
use Rattle.shop_base.specs.Movers.{due_of_job, due_of_cleaning}
use Rattle.cell_control.specs.Dues.{due_at}

-- the due moments of these jobs and machines
pub record AreDueMomentsOf (p : PlannedShop) (c : Cell) (dues : List (Option ℕ)) (J M : ℕ → Type 0) : Type 0 where
  pub count : length dues ≡ jobs p + machines p
  pub of_jobs : (j : ℕ) → j < jobs p → J j → due_at dues j ≡ due_of_job p j (job_in c j)
  pub of_others : (m : ℕ) → m < machines p → M m → due_at dues (jobs p + m) ≡ due_of_cleaning p m (cleaning c m)
