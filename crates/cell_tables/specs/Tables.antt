-- The cell in tables: what the rows stand for, and what a write of one row is.
use Rattle.std.specs.Prelude.{◌≡◌, ℕ, suc, ◌<◌, ◌≤◌, List, [], ◌∷◌, length, take, slice_index_or, slice_set, Option, None, Some}
use Rattle.shop_base.specs.declared.limits.TheConstants.{MAX_MOMENT}
use Rattle.shop_base.specs.declared.job_state.JobState.{JobState}
use Rattle.shop_base.specs.Plan.{PlannedShop, jobs, machines, order, IsWellShaped}
use Rattle.shop_base.specs.Cell.{Cell, MachineState, since, cleaning}
use Rattle.shop_base.specs.Sound.{IsSound}
use Rattle.cell_tables.specs.declared.tables.MachineRow.{MachineRow}
use Rattle.cell_tables.specs.declared.tables.Tables.{Tables}

-- the row of a machine that nobody has entered
abbrev pub no_row : MachineRow
no_row = record { entered = 0; cleaning = None }

-- machine m of a row: the first jobs of its order have entered it, as many as the row says
abbrev pub state_of : PlannedShop → ℕ → MachineRow → MachineState
state_of p m row = record { entries = take row.entered (order p m); cleaning = row.cleaning }

-- the machines of these rows, from machine m on
abbrev pub states_from : PlannedShop → ℕ → List MachineRow → List MachineState
states_from p m [] = []
states_from p m (row ∷ rows) = state_of p m row ∷ states_from p (suc m) rows

-- the cell that the tables stand for
unfoldable pub cell_of : PlannedShop → Tables → Cell
cell_of p t = record { jobs = t.jobs.items; machines = states_from p 0 t.machines.items; last = t.last }

-- the row of machine m
abbrev pub row_at : Tables → ℕ → MachineRow
row_at t m = slice_index_or t.machines.items m no_row

-- how many jobs have entered machine m by its row
abbrev pub entered_at : Tables → ℕ → ℕ
entered_at t m = (row_at t m).entered

-- tables for a plan: a row for each job and each machine, of which no more jobs have entered it than stand in its order, and moments within the limit
pub record AreTables (p : PlannedShop) (t : Tables) : Type 0 where
  pub shaped : IsWellShaped p
  pub job_count : length t.jobs.items ≡ jobs p
  pub machine_count : length t.machines.items ≡ machines p
  pub cursors : (m : ℕ) → m < machines p → entered_at t m ≤ length (order p m)
  pub since_in_range : (j : ℕ) → since (cell_of p t) j ≤ MAX_MOMENT
  pub cleaning_in_range : (m s : ℕ) → cleaning (cell_of p t) m ≡ Some s → s ≤ MAX_MOMENT
  pub last_in_range : t.last ≤ MAX_MOMENT

-- such tables, of a cell as it can be in a run
pub record AreSound (p : PlannedShop) (t : Tables) : Type 0 where
  pub tables : AreTables p t
  pub sound : IsSound p (cell_of p t)

-- the row of job j was written, at a moment that is the last now
pub record IsJobPut (old : Tables) (j : ℕ) (state : JobState) (at : ℕ) (new : Tables) : Type 0 where
  pub jobs : new.jobs.items ≡ slice_set old.jobs.items j state
  pub machines : new.machines.items ≡ old.machines.items
  pub last : new.last ≡ at

-- the row of machine m was written, at a moment that is the last now
pub record IsMachinePut (old : Tables) (m : ℕ) (row : MachineRow) (at : ℕ) (new : Tables) : Type 0 where
  pub jobs : new.jobs.items ≡ old.jobs.items
  pub machines : new.machines.items ≡ slice_set old.machines.items m row
  pub last : new.last ≡ at

-- so was the cleaning of machine m: since when it is being cleaned, if it is
abbrev pub IsCleaningPut : Tables → ℕ → Option ℕ → ℕ → Tables → Type 0
IsCleaningPut old m from at new = IsMachinePut old m (record { entered = entered_at old m; cleaning = from }) at new
