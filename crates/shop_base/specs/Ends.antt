-- How a run ends: the stated number of its reports, the jobs that are gone, and their budgets.
use Rattle.std.specs.Prelude.{ℕ, zero, suc, ◌+◌, ◌<◌, ◌≤◌, length, nat_lt, if◌then◌else◌, ◌⊎◌, List, [], ◌∷◌}
use Rattle.shop_base.specs.Shop.{operations_of}
use Rattle.shop_base.specs.Plan.{PlannedShop, jobs, machines, order, clean, budget}
use Rattle.shop_base.specs.Cell.{Cell, since, IsGone}
use Rattle.shop_base.specs.Activity.{IsIdle}
use Rattle.shop_base.specs.Run.{Event, Reported, Moved}

-- the sum of f over the numbers below n
abbrev pub sum_below : (ℕ → ℕ) → ℕ → ℕ
sum_below f zero = 0
sum_below f (suc n) = sum_below f n + f n

-- how often machine m will be cleaned: after each visit, where it has a cleaning time
abbrev pub cleanings_of : PlannedShop → ℕ → ℕ
cleanings_of p m = if nat_lt 0 (clean p m) then length (order p m) else 0

-- the stated number of reports: one for each job's arrival, for each operation, and for each cleaning
abbrev pub stated_number : PlannedShop → ℕ
stated_number p = jobs p + operations_of p.shop + sum_below (cleanings_of p) (machines p)

module _ (p : PlannedShop) (c : Cell) where
  -- the run has ended: all jobs are gone, and nothing goes on
  pub record HasEnded : Type 0 where
    pub gone : (j : ℕ) → j < jobs p → IsGone p c j
    pub idle : IsIdle p c

  -- job j is gone since a moment at most t
  pub record IsGoneBy (j t : ℕ) : Type 0 where
    pub gone : IsGone p c j
    pub by : since c j ≤ t

  -- it is out by its budget
  abbrev pub IsOutByBudget : ℕ → Type 0
  IsOutByBudget j = IsGoneBy j (budget p j)

  -- it is in time: out by its budget, or its budget isn't past yet
  abbrev pub IsInTime : ℕ → Type 0
  IsInTime j = IsOutByBudget j ⊎ (c.last ≤ budget p j)

-- how many reports are among the events
abbrev pub reports_in : List Event → ℕ
reports_in [] = 0
reports_in (Reported r ∷ es) = reports_in es + 1
reports_in (Moved o ∷ es) = reports_in es

-- how many moves
abbrev pub moves_in : List Event → ℕ
moves_in [] = 0
moves_in (Reported r ∷ es) = moves_in es
moves_in (Moved o ∷ es) = moves_in es + 1
