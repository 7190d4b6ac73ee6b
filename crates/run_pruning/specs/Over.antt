-- The jobs that are over at the end of a run.
use Rattle.std.specs.Prelude.{◌≡◌, ℕ, ◌<◌, ◌↔◌, List, length, Bool, false, Option, Some}
use Rattle.shop_base.specs.{Plan.PlannedShop, Plan.jobs, Cell.Cell, Cell.IsGone}
use Rattle.cell_tables.specs.Readings.{IsCleanedAfter}
use Rattle.run_pruning.specs.Staying.{stays}

-- job j is over in the cell at the end of a run, where `last` is the job whose the last event is: it is gone, no machine is being cleaned after it, and the last event isn't its own
pub record IsJobOver (p : PlannedShop) (c : Cell) (last : Option ℕ) (j : ℕ) : Type 0 where
  pub gone : IsGone p c j
  pub not_cleaned : (m : ℕ) → IsCleanedAfter p c m j → ⊥
  pub not_last : last ≡ Some j → ⊥

-- a mark for each job, and the jobs that don't stay are over
pub record DropsWhatIsOver (p : PlannedShop) (c : Cell) (last : Option ℕ) (marks : List Bool) : Type 0 where
  pub count : length marks ≡ jobs p
  pub over : (j : ℕ) → j < jobs p → stays marks j ≡ false → IsJobOver p c last j

-- of the first n jobs those that don't stay are just those that are over
pub record DropsOver (p : PlannedShop) (c : Cell) (last : Option ℕ) (n : ℕ) (marks : List Bool) : Type 0 where
  pub count : length marks ≡ n
  pub exact : (j : ℕ) → j < n → (stays marks j ≡ false) ↔ IsJobOver p c last j

-- just the jobs that are over don't stay
abbrev pub DropsAllThatIsOver : PlannedShop → Cell → Option ℕ → List Bool → Type 0
DropsAllThatIsOver p c last marks = DropsOver p c last (jobs p) marks
