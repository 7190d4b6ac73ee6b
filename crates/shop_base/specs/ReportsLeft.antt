-- The reports still to come in a run, counted from its cell.
use Rattle.std.specs.Prelude.{ℕ, zero, suc, ◌+◌, ◌-◌, Bool, false, not, ◌&&◌, length, slice_index, cond, is_some, nat_eq, nat_lt, if◌then◌else◌}
use Rattle.shop_base.specs.Plan.{PlannedShop, jobs, machines, steps, machine_of, order, clean}
use Rattle.shop_base.specs.Cell.{Cell, made, ready, entries, cleaning}
use Rattle.shop_base.specs.Ends.{sum_below}

-- 1 while the arrival or the operation of job j is going on: it is neither ready nor gone
abbrev pub busy : PlannedShop → Cell → ℕ → ℕ
busy p c j = if ready c j then 0 else (if nat_lt (steps p j) (made c j) then 0 else 1)

-- the reports of job j still to come: one for each step that it hasn't entered, and one for what is going on
abbrev pub job_reports_left : PlannedShop → Cell → ℕ → ℕ
job_reports_left p c j = (steps p j - made c j) + busy p c j

-- whether job j is on machine m when it has made so many moves
abbrev pub is_on_after : PlannedShop → ℕ → ℕ → ℕ → Bool
is_on_after p m j zero = false
is_on_after p m j (suc k) = nat_lt k (steps p j) && nat_eq (machine_of p j k) m

-- whether job j isn't on machine m
abbrev pub is_off : PlannedShop → Cell → ℕ → ℕ → Bool
is_off p c m j = not (is_on_after p m j (made c j))

-- the job that entered machine m last
abbrev pub last_entrant : Cell → ℕ → ℕ
last_entrant c m = slice_index (entries c m) (length (entries c m) - 1)

-- the departures from machine m so far: its entries, without that of a job that is still on it
abbrev pub departures : PlannedShop → Cell → ℕ → ℕ
departures p c m = length (entries c m) - cond (is_off p c m (last_entrant c m)) 0 1

-- the cleanings of machine m that haven't ended: one for each departure still to come, and one for that which is going on
abbrev pub cleanings_left : PlannedShop → Cell → ℕ → ℕ
cleanings_left p c m = if nat_lt 0 (clean p m) then (length (order p m) - departures p c m) + (if is_some (cleaning c m) then 1 else 0) else 0

-- the reports still to come
abbrev pub reports_left : PlannedShop → Cell → ℕ
reports_left p c = sum_below (job_reports_left p c) (jobs p) + sum_below (cleanings_left p c) (machines p)
