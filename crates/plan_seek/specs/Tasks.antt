-- A task: a shop with the releases, budgets and cleaning times of a plan whose orders are sought; and when a plan is accepted.
use Rattle.std.specs.Prelude.{ℕ, List, Option, Vec}
use Rattle.std.specs.declared.alloc.Global.{Global}
use Rattle.shop_base.specs.Shop.{JobShop}
use Rattle.shop_base.specs.Plan.{PlannedShop, IsWellShaped}
use Rattle.shop_base.specs.Vectors.{list_of}
use Rattle.plan_verifier.specs.Accepted.{IsAcceptable}
use Rattle.plan_seek.specs.declared.seek_fault.NotFound.{NotFound}
use Rattle.plan_seek.specs.Orders.{serial_order}

-- a shop, and the numbers of a plan for it, whose orders are sought
pub record PlanTask : Type 0 where
  pub shop : JobShop
  pub release : List ℕ
  pub budget : List ℕ
  pub clean : Option (List ℕ)

-- the task that these values make
abbrev pub task_of : JobShop → Vec ℕ Global → Vec ℕ Global → Option (Vec ℕ Global) → PlanTask
task_of shop release budget clean = record { shop = shop; release = release.items; budget = budget.items; clean = list_of clean }

-- the task that is given back where no plan was found
abbrev pub task_given_back : NotFound → PlanTask
task_given_back refused = task_of refused.shop refused.release refused.budget refused.clean

-- the task of a plan: its shop and its numbers, without its orders
abbrev pub task_in : PlannedShop → PlanTask
task_in p = record { shop = p.shop; release = p.plan.release; budget = p.plan.budget; clean = p.plan.clean }

-- the plan with these orders
abbrev pub with_order : PlanTask → List (List ℕ) → PlannedShop
with_order t order = record { shop = t.shop; plan = record { release = t.release; budget = t.budget; order = order; clean = t.clean } }

-- the serial plan: each machine takes its jobs in ascending order
abbrev pub serial_plan : PlanTask → PlannedShop
serial_plan t = with_order t (serial_order t.shop)

-- the plan is accepted: it is well shaped, it has no cycle, and each leaving is within its budget
pub record IsAccepted (p : PlannedShop) : Type 0 where
  pub shaped : IsWellShaped p
  pub acceptable : IsAcceptable p
