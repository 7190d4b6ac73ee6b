-- What is printed of the state of a cell: what is under way in it, and what of that is overdue.
use Rattle.std.specs.Prelude.{ℕ, zero, suc, ◌+◌, List, [], ◌++◌, Option, None, Some, Bool, true, false, if◌then◌else◌}
use Rattle.shop_base.specs.{Plan.PlannedShop, Plan.jobs, Plan.machines, Cell.Cell}
use Rattle.cell_tables.specs.declared.standing.Standing.{Standing}
use Rattle.cell_tables.specs.declared.standing.Standing.TheVariants.{Awaited, Outside, Worked, Done, Gone, Cleaned, Clean}
use Rattle.cell_tables.specs.Standings.{job_standing, machine_standing, is_overdue}
use Rattle.event_lines.specs.{declared.details.Overdue.Overdue, StandingLines.unfinished_standing_line}
use Rattle.cell_drive.specs.LineAnswers.{closing_line}

-- ---- the state

-- whether nothing is under way: the job is gone, or the machine is clean
abbrev pub is_over : Standing → Bool
is_over (Awaited job due) = false
is_over (Outside job to) = false
is_over (Worked visit machine since due) = false
is_over (Done visit machine to) = false
is_over (Gone job at) = true
is_over (Cleaned machine visit since due) = false
is_over (Clean machine) = true

-- the line of what is under way, with this before it
abbrev pub standing_part : List ℕ → Standing → List ℕ
standing_part prefix standing = if is_over standing then [] else prefix ++ unfinished_standing_line standing

-- the texts of so many numbers, from number k on
abbrev pub texts_from : (ℕ → List ℕ) → ℕ → ℕ → List ℕ
texts_from text k zero = []
texts_from text k (suc n) = text k ++ texts_from text (suc k) n

-- the lines of each job that isn't gone
abbrev pub jobs_text : List ℕ → PlannedShop → Cell → List ℕ
jobs_text prefix p c = texts_from (λ j. standing_part prefix (job_standing p c j)) 0 (jobs p)

-- the lines of each machine that is being cleaned
abbrev pub machines_text : List ℕ → PlannedShop → Cell → List ℕ
machines_text prefix p c = texts_from (λ m. standing_part prefix (machine_standing p c m)) 0 (machines p)

-- the state: these lines, and that of the reports that are left or of the end
abbrev pub state_text : List ℕ → PlannedShop → Cell → List ℕ
state_text prefix p c = (jobs_text prefix p c ++ machines_text prefix p c) ++ (prefix ++ closing_line p c)

-- ---- what is overdue

-- one more that is overdue
abbrev pub one_more : Option Overdue → Standing → Option Overdue
one_more None standing = Some (record { first = standing; others = 0 })
one_more (Some overdue) standing = Some (record { first = overdue.first; others = overdue.others + 1 })

-- what is overdue, with this one if it is
abbrev pub with_one : ℕ → Option Overdue → Standing → Option Overdue
with_one at found standing = if is_overdue standing at then one_more found standing else found

-- how many are
abbrev pub count_of : Option Overdue → ℕ
count_of None = 0
count_of (Some overdue) = overdue.others + 1

-- with those of so many numbers, from number k on
abbrev pub with_those : ℕ → (ℕ → Standing) → Option Overdue → ℕ → ℕ → Option Overdue
with_those at standing found k zero = found
with_those at standing found k (suc n) = with_those at standing (with_one at found (standing k)) (suc k) n

-- those of the jobs that were due before a moment
abbrev pub with_jobs : PlannedShop → Cell → ℕ → Option Overdue
with_jobs p c at = with_those at (job_standing p c) None 0 (jobs p)

-- and after these those of the machines
abbrev pub with_machines : PlannedShop → Cell → ℕ → Option Overdue → Option Overdue
with_machines p c at found = with_those at (machine_standing p c) found 0 (machines p)

-- with the report's own as the first, if it is one
abbrev pub own_first : ℕ → Standing → Option Overdue → Option Overdue
own_first at own None = None
own_first at own (Some overdue) = Some (record { first = if is_overdue own at then own else overdue.first; others = overdue.others })

-- what should have ended before a moment, as a report comes then
abbrev pub overdue_in : PlannedShop → Cell → Standing → ℕ → Option Overdue
overdue_in p c own at = own_first at own (with_machines p c at (with_jobs p c at))
