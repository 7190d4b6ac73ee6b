-- A cell with the plan by which it is run.
use Rattle.shop_base.specs.Plan.{PlannedShop}
use Rattle.shop_base.specs.Cell.{Cell, start}

-- a cell, its plan, and what leads to the plan
pub record PlannedCell (P : Type 0) : Type 0 where
  pub basis : P
  pub plan : PlannedShop
  pub cell : Cell

-- the cell at the start of a run
abbrev pub at_start : {P : Type 0} → P → PlannedShop → PlannedCell P
at_start basis plan = record { basis = basis; plan = plan; cell = start plan }
