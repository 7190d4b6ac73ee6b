use Rattle.std.proofs.Common.{◌≡◌, take}
use Rattle.shop_base.specs.Vectors.{lists_of}
use Rattle.cell_tables.proofs.reordering.copy_orders.Given as goal

-- the orders looked at are copied
abbrev pub invariant-loop-order : goal.invariant-loop-order
invariant-loop-order l = lists_of l.copy.items ≡ take l.order-index (lists_of l.orders)
