use Rattle.std.proofs.Common.{arith}
use Rattle.shop_base.proofs.Bounds.{operations_of-le}
use Rattle.shop_base.proofs.shop.Shop.operations.Goals as goal

pub operation_count-requires : goal.operation_count-requires
operation_count-requires c = rw c.rows.ensures (omega (arith, operations_of-le _ c.self.invariant))
