use Rattle.std.proofs.Common.{◌≡◌, [], map}
use Rattle.std.specs.List.{range_with_len}
use Rattle.shop_base.specs.Vectors.{lists_of}
use Rattle.plan_seek.specs.Orders.{visitors}
use Rattle.plan_seek.proofs.orders.empty_orders.Given as goal

-- an order for each machine so far
abbrev pub invariant-loop : goal.invariant-loop
invariant-loop l = lists_of l.orders.items ≡ map (visitors l.shop []) (range_with_len 0 l.counter)
