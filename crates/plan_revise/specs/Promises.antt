-- Jobs without a promise.
use Rattle.std.specs.Prelude.{◌≡◌, ℕ}
use Rattle.shop_base.specs.declared.limits.TheConstants.{MAX_MOMENT}
use Rattle.shop_base.specs.Plan.{PlannedShop, budget}

-- the budget of a job without a promise: the greatest one
abbrev pub no_promise : ℕ
no_promise = MAX_MOMENT

-- job j has no promise
abbrev pub HasNoPromise : PlannedShop → ℕ → Type 0
HasNoPromise p j = budget p j ≡ no_promise
