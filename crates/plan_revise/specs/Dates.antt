-- Another release or another budget of a job.
use Rattle.std.specs.Prelude.{ℕ, slice_set}
use Rattle.shop_base.specs.Plan.{PlannedShop}

-- job j is due at this moment
abbrev pub coming_by : PlannedShop → ℕ → ℕ → PlannedShop
coming_by p j moment = record p { plan = record p.plan { release = slice_set p.plan.release j moment } }

-- job j's promise is this moment
abbrev pub promised_by : PlannedShop → ℕ → ℕ → PlannedShop
promised_by p j moment = record p { plan = record p.plan { budget = slice_set p.plan.budget j moment } }
