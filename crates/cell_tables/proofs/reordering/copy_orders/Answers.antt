use Rattle.std.proofs.Common.{arith, ◌∙◌}
use Rattle.cell_tables.proofs.Copies.{copied}
use Rattle.cell_tables.proofs.reordering.copy_orders.Goals as goal

pub loop-order-preserved : goal.loop-order-preserved
loop-order-preserved c =
    copied c.args.orders.now c.loop-order.copy.items c.push.new.self.items c.in_ok-copy_order.field-0 c.order-item.result c.loop-order.order-index (omega arith) c.order-item.is
    c.in_ok-push.ensures.items (c.in_ok-copy_order.ensures ∙ c.as_slice.ensures.value) c.loop-order.invariant
