use Rattle.shop_base.specs.Vectors.{lists_of}
use Rattle.shop_base.specs.ShopFault.{AreRoutes}
use Rattle.shop_base.proofs.shop.check_routes.Given as goal

-- the routes checked so far are sound
abbrev pub invariant-loop-job : goal.invariant-loop-job
invariant-loop-job l = AreRoutes l.machines l.recirculates (lists_of l.routes) l.job
