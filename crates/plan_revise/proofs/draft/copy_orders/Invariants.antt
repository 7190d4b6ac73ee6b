use Rattle.std.proofs.Common.{◌≡◌, take}
use Rattle.shop_base.specs.Vectors.{lists_of}
use Rattle.plan_revise.proofs.draft.copy_orders.Given as goal

-- the orders of the machines before this one are copied
abbrev pub invariant-loop-machine : goal.invariant-loop-machine
invariant-loop-machine l = lists_of l.orders.items ≡ take l.machine l.shaped.plan.order
