-- How a controller is handed over to another plan: where it is, and why it isn't.
use Rattle.std.specs.Prelude.{◌≡◌, ℕ, ◌<◌, ◌≤◌, Some}
use Rattle.shop_base.specs.{declared.limits.TheConstants.MAX_MOMENT, Plan.PlannedShop, Cell.Cell, Report.IsNextMoment}
use Rattle.alt_graph.specs.Evidence.{IsCycle}
use Rattle.cell_tables.specs.{Kept.KeepsSoFar, Carried.IsCarried, Rests.IsPresentFault}
use Rattle.cell_tables.specs.declared.recast_fault.RecastFault.{RecastFault}
use Rattle.cell_tables.specs.declared.recast_fault.RecastFault.TheVariants.{IncompatiblePlan as IncompatibleRecast, Memory as MemoryRecast}
use Rattle.cell_tables.specs.declared.present_fault.PresentFault.TheVariants.{Past, TooLarge}
use Rattle.cell_control.specs.declared.rest_fault.RestFault.{RestFault}
use Rattle.cell_control.specs.declared.rest_fault.RestFault.TheVariants.{Cycle as CycleOfRest, Memory as MemoryOfRest}
use Rattle.cell_control.specs.declared.hand_over_fault.HandOverFault.{HandOverFault}
use Rattle.cell_control.specs.declared.hand_over_fault.HandOverFault.TheVariants.{Present, IncompatiblePlan, Cycle, Memory}
use Rattle.cell_control.specs.{Control.Control, Begun.IsBegun}

-- the moment is before the last one of cell c
abbrev pub IsPast : Cell → ℕ → HandOverFault → Type 0
IsPast c t (Present (Past last)) = (t < c.last) × (last ≡ c.last)
IsPast c t fault = ⊥

-- this is the first reason for which the rest of the run to cell c of plan p, at moment t, isn't one of plan q, or memory ran out
abbrev pub IsTakeOverFault : PlannedShop → Cell → PlannedShop → ℕ → HandOverFault → Type 0
IsTakeOverFault p c q t (Present TooLarge) = MAX_MOMENT < t
IsTakeOverFault p c q t IncompatiblePlan = (t ≤ MAX_MOMENT) × (KeepsSoFar p c q → ⊥)
IsTakeOverFault p c q t (Present (Past last)) = KeepsSoFar p c q × (t ≤ MAX_MOMENT) × (t < c.last) × (last ≡ c.last)
IsTakeOverFault p c q t (Cycle nodes) = ⊥
IsTakeOverFault p c q t Memory = KeepsSoFar p c q × (t ≤ MAX_MOMENT)

-- this is the first reason for which plan q can't take over cell c of plan p at moment t, or memory ran out
abbrev pub IsHandOverFault : PlannedShop → Cell → PlannedShop → ℕ → HandOverFault → Type 0
IsHandOverFault p c q t (Cycle nodes) = KeepsSoFar p c q × IsNextMoment c t × IsCycle q nodes.items
IsHandOverFault p c q t fault = IsTakeOverFault p c q t fault

-- the moment can't be the present one after cell c, or it can, and memory ran out
abbrev pub IsRestAtFault : Cell → ℕ → HandOverFault → Type 0
IsRestAtFault c t (Present fault) = IsPresentFault (Some t) c.last fault
IsRestAtFault c t Memory = IsNextMoment c t
IsRestAtFault c t fault = ⊥

-- the fault of a cell that isn't recast, as one of handing over
abbrev pub recast_as : RecastFault → HandOverFault
recast_as IncompatibleRecast = IncompatiblePlan
recast_as MemoryRecast = Memory

-- and that of a rest that isn't driven
abbrev pub undriven_as : RestFault → HandOverFault
undriven_as (CycleOfRest nodes) = Cycle nodes
undriven_as MemoryOfRest = Memory

-- plan q was handed the cell at moment t: the run so far keeps it, and the controller begins with the cell as one of that plan
pub record IsHandedOver (before : Control) (q : PlannedShop) (t : ℕ) (new : Control) : Type 0 where
  pub kept : KeepsSoFar before.planned before.cell q
  pub carried : Cell
  pub is_carried : IsCarried before.planned before.cell q carried
  pub begun : IsBegun q carried t new
