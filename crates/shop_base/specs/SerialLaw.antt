-- The law that the serial plan has no cycle.
use Rattle.std.specs.Prelude.{List}
use Rattle.shop_base.specs.declared.node.Node.{Node}
use Rattle.shop_base.specs.Plan.{PlannedShop, IsWellShaped}
use Rattle.shop_base.specs.Graph.{IsSimpleCycle, IsSerial}

-- a well-shaped plan in which each machine takes its jobs in ascending order has no cycle
abbrev pub TheSerialPlanHasNoCycle : Type 0
TheSerialPlanHasNoCycle = (p : PlannedShop) (nodes : List Node) → IsWellShaped p → IsSerial p → IsSimpleCycle p nodes → ⊥
