use Rattle.std.proofs.Common.{ℕ, ◌<◌, ◌≤◌}
use Rattle.shop_base.specs.Plan.{PlannedShop}
use Rattle.shop_base.specs.ShapeFault.{visit_count, place_count}
use Rattle.shop_base.proofs.shape_check.check_order.Given as goal

-- none of the jobs looked at is missing
abbrev pub invariant-loop-job : goal.invariant-loop-job
invariant-loop-job l = let p : PlannedShop = record { shop = l.shop; plan = l.plan } in
    (j : ℕ) → j < l.job → visit_count p l.machine j ≤ place_count p l.machine j
