use Rattle.std.proofs.Common.{length, arith}
use Rattle.shop_base.proofs.Rows.{sum_by-lists_more, sum_by-lists_more_le}
use Rattle.shop_base.proofs.shop.operation_count.Goals as goal

pub overflow_add-count : goal.overflow_add-count
overflow_add-count c = omega (arith, sum_by-lists_more_le _ _ c.route-item.result c.loop-route-test.true c.route-item.is length, c.route-item.result.ok.0)

pub loop-route-preserved : goal.loop-route-preserved
loop-route-preserved c = omega (arith, sum_by-lists_more _ _ c.route-item.result c.loop-route-test.true c.route-item.is length, c.route-item.result.ok.0)
