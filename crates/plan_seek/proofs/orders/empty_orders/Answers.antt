use Rattle.plan_seek.proofs.Rows.{empty_more}
use Rattle.plan_seek.proofs.orders.empty_orders.Goals as goal

pub loop-preserved : goal.loop-preserved
loop-preserved c = empty_more c.args.shop.now c.loop.orders.items c.push.new.self.items c.new.result c.loop.counter c.loop.invariant c.in_ok-push.ensures.items c.new.ensures.items
