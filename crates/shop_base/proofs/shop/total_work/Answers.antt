use Rattle.std.proofs.Common.{ap, arith}
use Rattle.shop_base.specs.Work.{route_work}
use Rattle.shop_base.proofs.Rows.{sum_by-lists_more, sum_by-lists_more_le}
use Rattle.shop_base.proofs.shop.total_work.Goals as goal

pub route_sum-work-requires : goal.route_sum-work-requires
route_sum-work-requires c = omega (arith, sum_by-lists_more_le _ _ c.route-item.result c.loop-route-test.true c.route-item.is route_work, ap route_work c.deref.ensures.value)

pub overflow_add-work : goal.overflow_add-work
overflow_add-work c = omega (arith, sum_by-lists_more_le _ _ c.route-item.result c.loop-route-test.true c.route-item.is route_work, ap route_work c.deref.ensures.value)

pub loop-route-preserved : goal.loop-route-preserved
loop-route-preserved c = omega (arith, sum_by-lists_more _ _ c.route-item.result c.loop-route-test.true c.route-item.is route_work, ap route_work c.deref.ensures.value)
