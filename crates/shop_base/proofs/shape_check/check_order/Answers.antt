use Rattle.std.proofs.Common.{arith, rules}
use Rattle.shop_base.proofs.Orders.{order_from_places}
use Rattle.shop_base.proofs.shape_check.check_order.Goals as goal

pub returns-clause-sound : goal.returns-clause-sound
returns-clause-sound c = order_from_places _ _ c.in_ok-listed.ensures.good (λ j within. c.loop-job.invariant j (omega arith))

pub loop-job-preserved : goal.loop-job-preserved
loop-job-preserved c = search rules depth 2
