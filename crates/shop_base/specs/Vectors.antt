-- How vectors are seen as lists.
use Rattle.std.specs.Prelude.{ℕ, List, map, Option, None, Some, Vec}
use Rattle.std.specs.declared.alloc.Global.{Global}
use Rattle.shop_base.specs.Plan.{ShopPlan}

-- the items of each vector
abbrev pub lists_of : {X : Type 0} → List (Vec X Global) → List (List X)
lists_of rows = map (λ row. row.items) rows

-- the items of a vector, if there is one
abbrev pub list_of : Option (Vec ℕ Global) → Option (List ℕ)
list_of None = None
list_of (Some v) = Some v.items

-- a plan by its releases, budgets, orders and cleaning times
abbrev pub plan_of : Vec ℕ Global → Vec ℕ Global → Vec (Vec ℕ Global) Global → Option (Vec ℕ Global) → ShopPlan
plan_of release budget order clean = record {
  release = release.items;
  budget = budget.items;
  order = lists_of order.items;
  clean = list_of clean;
}
