use Rattle.std.proofs.Common.{ℕ, ◌<◌}
use Rattle.shop_base.specs.Plan.{PlannedShop, IsOrder}
use Rattle.shop_base.proofs.shape_check.check_shape.Given as goal

-- the orders looked at are sound
abbrev pub invariant-loop-machine : goal.invariant-loop-machine
invariant-loop-machine l = let p : PlannedShop = record { shop = l.shop; plan = l.plan } in (m : ℕ) → m < l.machine → IsOrder p m
