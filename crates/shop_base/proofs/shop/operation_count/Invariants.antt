use Rattle.std.proofs.Common.{◌≡◌, length, take, sum_by}
use Rattle.shop_base.specs.Vectors.{lists_of}
use Rattle.shop_base.proofs.shop.operation_count.Given as goal

-- the steps of the routes looked at
abbrev pub invariant-loop-route : goal.invariant-loop-route
invariant-loop-route l = l.count ≡ sum_by length (take l.route-index (lists_of l.routes))
