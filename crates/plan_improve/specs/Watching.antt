-- What whoever watches a search gets.
use Rattle.std.specs.Prelude.{◌≡◌, ℕ, List, ◌++◌, Option, None, Some}
use Rattle.plan_improve.specs.declared.cost.Cost.{Cost}

-- a round, what the best plan before it costs, and the bound below which no makespan can be
pub record Progress : Type 0 where
  pub round : ℕ
  pub cost : Cost
  pub at_least : ℕ

-- whoever got these things before, where that is said, then got those more
abbrev pub ReportsMore : Option (List Progress) → List Progress → Option (List Progress) → Type 0
ReportsMore None more after = Unit {0}
ReportsMore (Some before) more after = after ≡ Some (before ++ more)

-- the bound that is reported: 0 where none is known
abbrev pub reported_bound : Option ℕ → ℕ
reported_bound None = 0
reported_bound (Some n) = n
