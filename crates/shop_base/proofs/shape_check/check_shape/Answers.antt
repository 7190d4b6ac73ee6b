use Rattle.std.proofs.Common.{below_more, rules}
use Rattle.shop_base.proofs.shape_check.check_shape.Goals as goal

pub loop-machine-preserved : goal.loop-machine-preserved
loop-machine-preserved c = below_more _ _ c.loop-machine.invariant c.in_ok-check_order.ensures.sound

pub loop-machine-init : goal.loop-machine-init
loop-machine-init c = search rules depth 2
