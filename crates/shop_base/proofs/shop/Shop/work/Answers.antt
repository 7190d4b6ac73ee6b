use Rattle.std.proofs.Common.{arith}
use Rattle.shop_base.proofs.Bounds.{work_of-le}
use Rattle.shop_base.proofs.shop.Shop.work.Goals as goal

pub total_work-requires : goal.total_work-requires
total_work-requires c = rw c.rows.ensures (omega (arith, work_of-le _ c.self.invariant))
