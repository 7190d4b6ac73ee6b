use Rattle.std.proofs.Common.{arith, rules}
use Rattle.shop_base.proofs.Bounds.{operations_of-le}
use Rattle.shop_base.proofs.shaped.Shaped.report_count.Goals as goal

pub overflow_add-result : goal.overflow_add-result
overflow_add-result c = omega (arith, operations_of-le c.shop.result.now (rw c.shop.ensures.same c.shop.ensures.well_shaped.shop))

pub overflow_add-result-2 : goal.overflow_add-result-2
overflow_add-result-2 c = omega (arith, operations_of-le c.shop.result.now (rw c.shop.ensures.same c.shop.ensures.well_shaped.shop))

pub returns : goal.returns
returns c = search rules depth 2
