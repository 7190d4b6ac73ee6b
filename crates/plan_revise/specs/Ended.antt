-- A job that ends behind one of its steps.
use Rattle.std.specs.Prelude.{ℕ, take, drop, slice_set}
use Rattle.shop_base.specs.Plan.{PlannedShop, route}
use Rattle.plan_revise.specs.Orders.{removed}
use Rattle.plan_revise.specs.Promises.{no_promise}

-- job j ends behind its first n steps: its route is cut there, each visit behind is taken out of its machine's order, the last of the job's places there, and it has no promise
abbrev pub with_job_ended : PlannedShop → ℕ → ℕ → PlannedShop
with_job_ended p j n = record {
  shop = record p.shop { routes = slice_set p.shop.routes j (take n (route p j)) };
  plan = record p.plan { budget = slice_set p.plan.budget j no_promise; order = removed j (drop n (route p j)) p.plan.order };
}
