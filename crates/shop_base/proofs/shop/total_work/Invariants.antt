use Rattle.std.proofs.Common.{◌≡◌, take, sum_by}
use Rattle.shop_base.specs.Vectors.{lists_of}
use Rattle.shop_base.specs.Work.{route_work}
use Rattle.shop_base.proofs.shop.total_work.Given as goal

-- the work of the routes looked at
abbrev pub invariant-loop-route : goal.invariant-loop-route
invariant-loop-route l = l.work ≡ sum_by route_work (take l.route-index (lists_of l.routes))
