-- The jobs that are ready or can move, and the due moments of jobs and cleanings.
use Rattle.std.specs.Prelude.{◌≡◌, ℕ, zero, suc, ◌+◌, Option, None, Some, cond, nat_lt, if◌then◌else◌}
use Rattle.shop_base.specs.declared.job_state.JobState.{JobState}
use Rattle.shop_base.specs.Plan.{PlannedShop, jobs, steps, release, nominal, clean}
use Rattle.shop_base.specs.Cell.{Cell, ready}
use Rattle.shop_base.specs.Move.{CanMove, KeepsPlan}
use Rattle.shop_base.specs.Ends.{sum_below}

-- no job but j can move and keep the plan
abbrev pub OnlyMoves : PlannedShop → Cell → ℕ → Type 0
OnlyMoves p c j = (i t : ℕ) → CanMove p c i t → KeepsPlan p c i → i ≡ j

-- 1 for a ready job
abbrev pub counted : Cell → ℕ → ℕ
counted c j = cond (ready c j) 1 0

-- how many jobs are ready
abbrev pub ready_count : PlannedShop → Cell → ℕ
ready_count p c = sum_below (counted c) (jobs p)

-- when the activity of job j is due, once it has made n moves, the last of them at a moment; none once it is gone
abbrev pub due_after : PlannedShop → ℕ → ℕ → ℕ → Option ℕ
due_after p j zero since = Some (release p j)
due_after p j (suc k) since = if nat_lt k (steps p j) then Some (since + nominal p j k) else None

-- when the activity of job j is due in this state, none where it has no activity
abbrev pub due_of_job : PlannedShop → ℕ → JobState → Option ℕ
due_of_job p j state = if state.ready then None else due_after p j state.made state.since

-- when the cleaning of machine m is due, none where it isn't being cleaned
abbrev pub due_of_cleaning : PlannedShop → ℕ → Option ℕ → Option ℕ
due_of_cleaning p m None = None
due_of_cleaning p m (Some from) = Some (from + clean p m)
