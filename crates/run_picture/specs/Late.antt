-- The jobs that leave past their budgets.
use Rattle.std.specs.Prelude.{ℕ, ◌-◌, nat_lt, if◌then◌else◌, max, Bool, List, [], ◌∷◌, map, slice_index_or, is_some, Option, None, Some}
use Rattle.std.specs.List.{range_with_len}
use Rattle.run_picture.specs.LastMoments.{moment_or_none}
use Rattle.shop_base.specs.Plan.{PlannedShop, jobs, steps, machine_of, budget}
use Rattle.run_picture.specs.declared.late_leaving.LateLeaving.{LateLeaving}

-- the last machine of job j's route
abbrev pub last_machine : PlannedShop → ℕ → ℕ
last_machine p j = machine_of p j (steps p j - 1)

-- the leaving of job j, if it is known and past its budget
abbrev pub late_leaving : PlannedShop → ℕ → Option ℕ → Option LateLeaving
late_leaving p j None = None
late_leaving p j (Some t) = if nat_lt (budget p j) t then Some (record { machine = last_machine p j; at = t }) else None

-- so of each job, ascending
abbrev pub late_leavings : PlannedShop → List (Option ℕ) → List (Option LateLeaving)
late_leavings p leavings = map (λ j. late_leaving p j (slice_index_or leavings j None)) (range_with_len 0 (jobs p))

-- whether job j is among them
abbrev pub is_late : List (Option LateLeaving) → ℕ → Bool
is_late late j = is_some (slice_index_or late j None)

-- the latest of the leavings that are known, 0 where none is (Pinedo, Scheduling: C_max)
abbrev pub latest : List (Option ℕ) → ℕ
latest [] = 0
latest (leaving ∷ leavings) = max (moment_or_none leaving) (latest leavings)
