-- The law that no plan is sooner than its bounds, whatever its orders.
use Rattle.std.specs.Prelude.{ℕ, ◌<◌, ◌≤◌, List}
use Rattle.shop_base.specs.declared.node.Node.{Node}
use Rattle.shop_base.specs.Plan.{PlannedShop, jobs, budget, IsWellShaped}
use Rattle.shop_base.specs.Cell.{start}
use Rattle.shop_base.specs.Run.{Event, IsRun, ends_in}
use Rattle.shop_base.specs.Punctual.{AreExact}
use Rattle.shop_base.specs.Ends.{IsOutByBudget}
use Rattle.shop_base.specs.Graph.{leaving, Path, MomentsFit}
use Rattle.plan_bounds.specs.Bounds.{times_of, job_bound}
use Rattle.plan_bounds.specs.Makespan.{IsLeastMakespan}
use Rattle.plan_bounds.specs.declared.makespan.LeastMakespan.{LeastMakespan}

-- some path to the node is at least n long
pub record HasPathOf (p : PlannedShop) (v : Node) (n : ℕ) : Type 0 where
  pub nodes : List Node
  pub size : ℕ
  pub path : Path p nodes v size
  pub long : n ≤ size

-- no plan is sooner: in every well-shaped plan, whatever its orders and budgets, some path to each job's leaving is at least as long as the job's bound, and some path to some job's leaving as the greatest bound of all; the bounds are those of its shop, its releases and its cleaning times
abbrev pub NoPlanIsSooner : Type 0
NoPlanIsSooner = (p : PlannedShop) → IsWellShaped p
    → ((j : ℕ) → j < jobs p → HasPathOf p (leaving p j) (job_bound (times_of p) j))
    × ((least : LeastMakespan) → IsLeastMakespan (times_of p) least → (j : ℕ) × (j < jobs p) × HasPathOf p (leaving p j) least.at_least)

-- so a job whose bound is past its budget is late in every plan: by moments that fit it leaves past its budget, and in no run whose reports are exact is it out by its budget
abbrev pub NeverInTime : Type 0
NeverInTime = (p : PlannedShop) (j : ℕ) → IsWellShaped p → j < jobs p → budget p j < job_bound (times_of p) j
    → ((kept : Node → ℕ) → MomentsFit p kept → budget p j < kept (leaving p j))
    × ((es : List Event) → IsRun p es → AreExact p (start p) es → IsOutByBudget p (ends_in p es) j → ⊥)
