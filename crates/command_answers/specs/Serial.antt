-- A plan with the orders of the serial one.
use Rattle.shop_base.specs.Plan.{PlannedShop}
use Rattle.plan_seek.specs.Orders.{serial_order}
use Rattle.cell_tables.specs.Reordered.{reordered}

-- the serial plan with the numbers of this one
abbrev pub serially : PlannedShop → PlannedShop
serially p = reordered p (serial_order p.shop)
