-- What a plan costs: its total lateness and its makespan, by the lengths of its paths; and which of two costs is less.
use Rattle.std.specs.Prelude.{◌≡◌, ℕ, ◌-◌, ◌<◌, ◌≤◌, ◌⊎◌}
use Rattle.shop_base.specs.{Plan.PlannedShop, Plan.jobs, Plan.budget, Ends.sum_below}
use Rattle.plan_verifier.specs.{Accepted.HasNoCycle, Accepted.IsMakespan, Leavings.AreLeavings}
use Rattle.plan_improve.specs.declared.cost.Cost.{Cost}

-- the total lateness (Pinedo, Scheduling: the sum of the T_j): over all jobs, what each leaves past its budget
pub record IsLateness (p : PlannedShop) (n : ℕ) : Type 0 where
  pub leaves : ℕ → ℕ
  pub are : AreLeavings p leaves
  pub sum : n ≡ sum_below (λ j. leaves j - budget p j) (jobs p)

-- the plan has no cycle, and these are its total lateness and its makespan
pub record IsCost (p : PlannedShop) (c : Cost) : Type 0 where
  pub acyclic : HasNoCycle p
  pub late : IsLateness p c.late
  pub makespan : IsMakespan p c.makespan

-- a cost is less: less late, or as late with a lesser makespan
abbrev pub IsLess : Cost → Cost → Type 0
IsLess c d = (c.late < d.late) ⊎ ((c.late ≡ d.late) × (c.makespan < d.makespan))

-- a cost is at most the other: less late, or as late with no greater makespan
abbrev pub IsAtMost : Cost → Cost → Type 0
IsAtMost c d = (c.late < d.late) ⊎ ((c.late ≡ d.late) × (c.makespan ≤ d.makespan))
