-- A job each of whose visits goes last in its machine's order, and one job or machine more.
use Rattle.std.specs.Prelude.{ℕ, ◌+◌, List, [], ◌∷◌, ◌++◌, slice_set, Option, None, Some}
use Rattle.shop_base.specs.declared.shop.Step.{Step}
use Rattle.shop_base.specs.Plan.{PlannedShop, jobs, machines}
use Rattle.plan_revise.specs.Orders.{put_last}

-- job j, which is in no order, gets this route, release and budget, and each of its visits goes last in its machine's order
abbrev pub placed : PlannedShop → ℕ → List Step → ℕ → ℕ → PlannedShop
placed p j steps release budget = record {
  shop = record p.shop { routes = slice_set p.shop.routes j steps };
  plan = record p.plan { release = slice_set p.plan.release j release; budget = slice_set p.plan.budget j budget; order = put_last j steps p.plan.order };
}

-- one job more, which is in no order, without a route
abbrev pub with_new_job : PlannedShop → PlannedShop
with_new_job p = record {
  shop = record p.shop { routes = p.shop.routes ++ [] ∷ [] };
  plan = record p.plan { release = p.plan.release ++ 0 ∷ []; budget = p.plan.budget ++ 0 ∷ [] };
}

-- one job more, with this route, release and budget, each of its visits last in its machine's order
abbrev pub added : PlannedShop → List Step → ℕ → ℕ → PlannedShop
added p steps release budget = placed (with_new_job p) (jobs p) steps release budget

-- the cleaning times, with one of 0 more where there are any
abbrev pub with_clean_machine : Option (List ℕ) → Option (List ℕ)
with_clean_machine None = None
with_clean_machine (Some times) = Some (times ++ 0 ∷ [])

-- one machine more, which nobody visits, without a cleaning time
abbrev pub with_new_machine : PlannedShop → PlannedShop
with_new_machine p = record {
  shop = record p.shop { machines = machines p + 1 };
  plan = record p.plan { order = p.plan.order ++ [] ∷ []; clean = with_clean_machine p.plan.clean };
}
