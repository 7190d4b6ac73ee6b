-- The new numbers of the jobs that stay, in a row for all jobs.
use Rattle.std.specs.Prelude.{◌≡◌, ℕ, ◌+◌, ◌-◌, ◌<◌, ◌≤◌, nat_lt, List, Bool, map, length, slice_index_or, Option, None, Some, is_some, if◌then◌else◌}
use Rattle.shop_base.specs.declared.limits.TheConstants.{MAX_JOBS}
use Rattle.run_pruning.specs.Staying.{stays, new_number}

-- the new number of job j, none where it doesn't stay
abbrev pub number_if_kept : List Bool → ℕ → Option ℕ
number_if_kept marks j = if stays marks j then Some (new_number marks j) else None

-- the number of job j where more jobs come behind those that there were: theirs go on from those that stay
abbrev pub number_behind : List Bool → ℕ → Option ℕ
number_behind marks j = if nat_lt j (length marks) then number_if_kept marks j else Some (j - length marks + new_number marks (length marks))

-- the jobs that have a number stay
abbrev pub marks_of : List (Option ℕ) → List Bool
marks_of numbers = map (λ n. is_some n) numbers

-- each has the new number of its job, and so many stay
pub record AreNumbers (numbers : List (Option ℕ)) (count : ℕ) : Type 0 where
  pub each : (j : ℕ) → j < length numbers → slice_index_or numbers j None ≡ number_if_kept (marks_of numbers) j
  pub all : count ≡ new_number (marks_of numbers) (length numbers)
  pub few : length numbers ≤ MAX_JOBS
