-- The rest of a run: a cell in mid-run, and the present moment.
use Rattle.std.specs.Prelude.{◌≡◌, ℕ, ◌<◌, ◌≤◌, List, Option, None, Some}
use Rattle.shop_base.specs.declared.limits.TheConstants.{MAX_MOMENT}
use Rattle.shop_base.specs.{Plan.PlannedShop, Cell.Cell, Cell.start, Report.IsNextMoment}
use Rattle.shop_base.specs.Run.{Event, IsRun, ends_in}
use Rattle.cell_tables.specs.declared.present_fault.PresentFault.{PresentFault}
use Rattle.cell_tables.specs.declared.present_fault.PresentFault.TheVariants.{Past, TooLarge}

-- a cell, the present moment, the plan by which the cell is run, and what leads to the plan
pub record RestOfRun (P : Type 0) : Type 0 where
  pub basis : P
  pub plan : PlannedShop
  pub cell : Cell
  pub present : ℕ

-- some run of the plan ends with this cell
pub record IsReached (p : PlannedShop) (c : Cell) : Type 0 where
  pub events : List Event
  pub run : IsRun p events
  pub ends : ends_in p events ≡ c

-- a run ends with the cell, and the present moment isn't before its last one
pub record IsRest {P : Type 0} (r : RestOfRun P) : Type 0 where
  pub reached : IsReached r.plan r.cell
  pub moment : IsNextMoment r.cell r.present

-- that of a run that hasn't begun, at moment 0
abbrev pub whole_run : {P : Type 0} → P → PlannedShop → RestOfRun P
whole_run basis plan = record { basis = basis; plan = plan; cell = start plan; present = 0 }

-- the present moment: the one that is given, else the last one
abbrev pub present_of : Option ℕ → ℕ → ℕ
present_of None last = last
present_of (Some at) last = at

-- why the moment that is given can't be the present one after the last
abbrev pub IsPresentFault : Option ℕ → ℕ → PresentFault → Type 0
IsPresentFault None last fault = ⊥
IsPresentFault (Some at) last (Past moment) = (at < last) × (moment ≡ last)
IsPresentFault (Some at) last TooLarge = (last ≤ at) × (MAX_MOMENT < at)
