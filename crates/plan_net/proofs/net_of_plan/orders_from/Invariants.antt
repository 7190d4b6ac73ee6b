use Rattle.std.proofs.Common.{◌≡◌, map, length, take}
use Rattle.shop_base.specs.Vectors.{lists_of}
use Rattle.plan_net.proofs.net_of_plan.orders_from.Given as goal

-- the orders so far have as many places as the plan's
abbrev pub invariant-loop-machine : goal.invariant-loop-machine
invariant-loop-machine l = map length (lists_of l.orders.items) ≡ map length (take l.machine l.shaped.plan.order)
