use Rattle.shop_base.specs.Shop.{route_at}
use Rattle.shop_base.specs.Vectors.{lists_of}
use Rattle.shop_base.proofs.RouteMarks.{AreStepsChecked}
use Rattle.shop_base.proofs.shop.check_route.Given as goal

-- the steps looked at are sound, and their machines are marked
abbrev pub invariant-loop-step : goal.invariant-loop-step
invariant-loop-step l = AreStepsChecked l.machines l.recirculates (route_at (lists_of l.routes) l.job) l.visited l.step
