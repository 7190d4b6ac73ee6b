-- A cell that is recast to another plan: p is the plan by which it was made, q the other.
use Rattle.shop_base.specs.{Plan.PlannedShop, Cell.Cell}
use Rattle.cell_tables.specs.declared.recast_fault.RecastFault.{RecastFault}
use Rattle.cell_tables.specs.declared.recast_fault.RecastFault.TheVariants.{IncompatiblePlan, Memory}
use Rattle.cell_tables.specs.{Kept.KeepsSoFar, Carried.IsCarried}

-- all that was done keeps the other plan, and this is the cell with that plan's jobs and machines, each as it was
pub record IsRecast (p : PlannedShop) (c : Cell) (q : PlannedShop) (new : Cell) : Type 0 where
  pub kept : KeepsSoFar p c q
  pub carried : IsCarried p c q new

-- why it isn't: something that was done doesn't keep the other plan, or else memory ran out
abbrev pub IsRecastFault : PlannedShop → Cell → PlannedShop → RecastFault → Type 0
IsRecastFault p c q IncompatiblePlan = KeepsSoFar p c q → ⊥
IsRecastFault p c q Memory = KeepsSoFar p c q
