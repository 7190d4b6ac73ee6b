-- The rows of a cell that is carried over to another plan.
use Rattle.std.specs.Prelude.{◌≡◌, ℕ, ◌<◌, ◌≤◌, List, length, slice_index_or, IfSome}
use Rattle.shop_base.specs.{declared.limits.TheConstants.MAX_MOMENT, declared.job_state.JobState.JobState}
use Rattle.shop_base.specs.{Plan.PlannedShop, Cell.Cell, Cell.absent, Cell.entries}
use Rattle.cell_tables.specs.{declared.tables.MachineRow.MachineRow, Tables.no_row}
use Rattle.cell_tables.specs.Carried.{carried_job, carried_cleaning}

-- the rows of the first n jobs
pub record AreCarriedJobs (p : PlannedShop) (c : Cell) (n : ℕ) (rows : List JobState) : Type 0 where
  pub count : length rows ≡ n
  pub same : (j : ℕ) → j < n → slice_index_or rows j absent ≡ carried_job p c j

-- those of the first n machines
pub record AreCarriedMachines (c : Cell) (q : PlannedShop) (n : ℕ) (rows : List MachineRow) : Type 0 where
  pub count : length rows ≡ n
  pub entered : (m : ℕ) → m < n → (slice_index_or rows m no_row).entered ≡ length (entries c m)
  pub cleaning : (m : ℕ) → m < n → (slice_index_or rows m no_row).cleaning ≡ carried_cleaning c q m
  pub in_range : (m : ℕ) → m < n → IfSome (slice_index_or rows m no_row).cleaning (λ from. from ≤ MAX_MOMENT)
