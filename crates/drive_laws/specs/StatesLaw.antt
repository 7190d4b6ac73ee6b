-- The law that a state has a line of each job that isn't gone and of each machine that is being cleaned, and no other.
use Rattle.std.specs.Prelude.{◌≡◌, ◌↔◌, ℕ, None, true}
use Rattle.shop_base.specs.{Plan.PlannedShop, Cell.Cell, Cell.cleaning, Cell.IsGone}
use Rattle.cell_tables.specs.Standings.{job_standing, machine_standing}
use Rattle.cell_drive.specs.States.{is_over}

-- a job has no line where it is gone, and only there
abbrev pub OnlyGoneJobsAreLeftOut : Type 0
OnlyGoneJobsAreLeftOut = (p : PlannedShop) (c : Cell) (job : ℕ) → (is_over (job_standing p c job) ≡ true) ↔ IsGone p c job

-- a machine has none where it isn't being cleaned, and only there
abbrev pub OnlyCleanMachinesAreLeftOut : Type 0
OnlyCleanMachinesAreLeftOut = (p : PlannedShop) (c : Cell) (machine : ℕ) → (is_over (machine_standing p c machine) ≡ true) ↔ (cleaning c machine ≡ None)
