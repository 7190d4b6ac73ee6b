-- The spots of a move.
use Rattle.std.specs.Prelude.{◌<◌}
use Rattle.shop_base.specs.declared.move_order.Spot.{Spot}
use Rattle.shop_base.specs.declared.move_order.Spot.TheVariants.{Out, At}
use Rattle.shop_base.specs.Plan.{PlannedShop, machines}

-- out of the cell, or on a machine of the shop
abbrev pub IsSpotOf : PlannedShop → Spot → Type 0
IsSpotOf p Out = Unit {0}
IsSpotOf p (At m) = m < machines p
