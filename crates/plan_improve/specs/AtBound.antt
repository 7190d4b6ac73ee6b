-- When nobody can better a plan: it meets the bound below which no plan with its numbers is.
use Rattle.std.specs.Prelude.{◌≡◌, ℕ, Option, None, Some}
use Rattle.shop_base.specs.Plan.{PlannedShop}
use Rattle.plan_bounds.specs.{declared.makespan.By.By, Bounds.times_of, Makespan.IsBy}
use Rattle.plan_improve.specs.declared.cost.Cost.{Cost}

-- the greatest of the bounds of the machines and the jobs, with the plan's releases and cleaning times, whatever its orders
abbrev pub IsBound : PlannedShop → ℕ → Type 0
IsBound p n = (by : By) × IsBy (times_of p) n by

-- a cost that meets the bound: no job is late, and the makespan is no more; where no bound is known, none does
abbrev pub Meets : Cost → Option ℕ → Type 0
Meets c None = ⊥
Meets c (Some n) = (c.late ≡ 0) × (c.makespan ≡ n)
