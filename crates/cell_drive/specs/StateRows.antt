-- The rows of a state. No public clause cites this module.
use Rattle.std.specs.Prelude.{ℕ, List, Option}
use Rattle.shop_base.specs.{Plan.PlannedShop, Plan.jobs, Plan.machines, Cell.Cell}
use Rattle.cell_tables.specs.{declared.standing.Standing.Standing, Standings.job_standing, Standings.machine_standing}
use Rattle.event_lines.specs.declared.details.Overdue.{Overdue}
use Rattle.cell_drive.specs.{declared.states.Rows.Rows, States.standing_part, States.texts_from, States.with_those}
use Rattle.cell_drive.specs.declared.states.Rows.TheVariants.{Jobs, Machines}

-- how many there are
abbrev pub row_count : PlannedShop → Rows → ℕ
row_count p Jobs = jobs p
row_count p Machines = machines p

-- how it stands with the job or the machine of a number
abbrev pub row : PlannedShop → Cell → Rows → ℕ → Standing
row p c Jobs = job_standing p c
row p c Machines = machine_standing p c

-- their lines, with this before each
abbrev pub rows_text : List ℕ → PlannedShop → Cell → Rows → List ℕ
rows_text prefix p c rows = texts_from (λ i. standing_part prefix (row p c rows i)) 0 (row_count p rows)

-- what is overdue, with what is overdue among them
abbrev pub with_rows : PlannedShop → Cell → ℕ → Rows → Option Overdue → Option Overdue
with_rows p c at rows found = with_those at (row p c rows) found 0 (row_count p rows)
