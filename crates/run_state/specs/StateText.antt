-- The state of the rest of a run: where its jobs are at a moment, which machines are being cleaned, and what is left.
use Rattle.std.specs.Prelude.{ℕ, List, [], ◌++◌, flat_map, nat_lt, is_some, Bool, if◌then◌else◌}
use Rattle.std.specs.List.{range_with_len}
use Rattle.shop_base.specs.Plan.{PlannedShop, jobs, machines, steps}
use Rattle.shop_base.specs.{Cell.Cell, Cell.made, Cell.cleaning, Ends.sum_below, ReportsLeft.reports_left}
use Rattle.cell_tables.specs.Standings.{job_standing, machine_standing}
use Rattle.people_names.specs.NameBooks.{NameBook}
use Rattle.run_state.specs.StateLines.{now_line, standing_line, left_line, reports_line}

-- whether job j is gone: it has made a move more than its route has steps
abbrev pub is_gone : PlannedShop → Cell → ℕ → Bool
is_gone p c j = nat_lt (steps p j) (made c j)

-- how many jobs are gone
abbrev pub jobs_gone : PlannedShop → Cell → ℕ
jobs_gone p c = sum_below (λ j. if is_gone p c j then 1 else 0) (jobs p)

module _ (names : NameBook) (p : PlannedShop) (c : Cell) (t : ℕ) where
  -- the line of job j, unless it is gone
  abbrev pub job_line : ℕ → List ℕ
  job_line j = if is_gone p c j then [] else standing_line names t (job_standing p c j)

  -- the line of machine m, if it is being cleaned
  abbrev pub machine_line : ℕ → List ℕ
  machine_line m = if is_some (cleaning c m) then standing_line names t (machine_standing p c m) else []

  -- the lines of the first jobs, ascending
  abbrev pub job_lines : ℕ → List ℕ
  job_lines count = flat_map job_line (range_with_len 0 count)

  -- those of the first machines, ascending
  abbrev pub machine_lines : ℕ → List ℕ
  machine_lines count = flat_map machine_line (range_with_len 0 count)

  -- the state: `now N`, the jobs, the machines, how many jobs are gone, and how many reports are still to come
  abbrev pub state_text : List ℕ
  state_text = now_line names t ++ job_lines (jobs p) ++ machine_lines (machines p) ++ left_line (jobs_gone p c) (jobs p) ++ reports_line (reports_left p c)
