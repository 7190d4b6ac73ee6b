-- How it stands with each job and each machine of a cell.
use Rattle.std.specs.Prelude.{ℕ, zero, suc, ◌+◌, ◌-◌, length, Option, None, Some, Bool, false, ◌&&◌, nat_eq, nat_lt, if◌then◌else◌}
use Rattle.shop_base.specs.Plan.{PlannedShop, steps, machine_of, nominal, release, clean, job_at}
use Rattle.shop_base.specs.Cell.{Cell, made, ready, since, entries, cleaning}
use Rattle.shop_base.specs.Move.{target}
use Rattle.shop_base.specs.Shop.{shown_step}
use Rattle.cell_tables.specs.declared.standing.Visit.{Visit}
use Rattle.cell_tables.specs.declared.standing.Standing.{Standing}
use Rattle.cell_tables.specs.declared.standing.Standing.TheVariants.{Awaited, Outside, Worked, Done, Gone, Cleaned, Clean}

-- a visit of a job by its step, as lines tell it
abbrev pub shown_visit : PlannedShop → ℕ → ℕ → Visit
shown_visit p j k = record { job = j; step = shown_step p.shop k }

-- the latest of the first n steps of job j that is on machine m
abbrev pub latest_on : PlannedShop → ℕ → ℕ → ℕ → ℕ
latest_on p j m zero = 0
latest_on p j m (suc k) = if nat_lt k (steps p j) && nat_eq (machine_of p j k) m then k else latest_on p j m k

module _ (p : PlannedShop) (c : Cell) where
  -- a job that hasn't entered the cell is awaited until its release, or waits for its first machine
  abbrev pub outside_standing : ℕ → Bool → Standing
  outside_standing j is_ready = if is_ready then Outside j (target p c j) else Awaited j (release p j)

  -- a job on the machine of its step k: its operation goes on, or is done and it waits for the next machine
  abbrev pub inside_standing : ℕ → ℕ → Bool → Standing
  inside_standing j k is_ready =
      if is_ready then Done (shown_visit p j k) (machine_of p j k) (target p c j) else Worked (shown_visit p j k) (machine_of p j k) (since c j) (since c j + nominal p j k)

  -- a job that has made so many moves
  abbrev pub standing_after : ℕ → ℕ → Standing
  standing_after j zero = outside_standing j (ready c j)
  standing_after j (suc k) = if nat_lt k (steps p j) then inside_standing j k (ready c j) else Gone j (since c j)

  -- how it stands with job j
  abbrev pub job_standing : ℕ → Standing
  job_standing j = standing_after j (made c j)

  -- the latest visit of job j to machine m
  abbrev pub latest_visit : ℕ → ℕ → Visit
  latest_visit j m = shown_visit p j (latest_on p j m (made c j))

  -- a machine that is being cleaned since a moment, after the visit for which it was entered last; or one that isn't
  abbrev pub cleaning_standing : ℕ → Option ℕ → Standing
  cleaning_standing m None = Clean m
  cleaning_standing m (Some from) = Cleaned m (latest_visit (job_at p m (length (entries c m) - 1)) m) from (from + clean p m)

  -- how it stands with machine m
  abbrev pub machine_standing : ℕ → Standing
  machine_standing m = cleaning_standing m (cleaning c m)

-- whether something goes on that is due before moment t
abbrev pub is_overdue : Standing → ℕ → Bool
is_overdue (Awaited j due) t = nat_lt due t
is_overdue (Outside j to) t = false
is_overdue (Worked visit m from due) t = nat_lt due t
is_overdue (Done visit m to) t = false
is_overdue (Gone j at) t = false
is_overdue (Cleaned m visit from due) t = nat_lt due t
is_overdue (Clean m) t = false
