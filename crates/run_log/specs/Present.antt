-- The rest of the run that a log records.
use Rattle.std.specs.Prelude.{◌≡◌, ℕ, ◌≤◌, List, Option}
use Rattle.shop_base.specs.declared.limits.TheConstants.{MAX_MOMENT}
use Rattle.shop_base.specs.{Plan.PlannedShop, Cell.Cell}
use Rattle.cell_tables.specs.declared.entry.Entry.{Entry}
use Rattle.cell_tables.specs.declared.present_fault.PresentFault.{PresentFault}
use Rattle.cell_tables.specs.Rests.{present_of, IsPresentFault}
use Rattle.event_lines.specs.LogLines.{LinesParse}
use Rattle.run_log.specs.Audits.{IsReplayed, IsFirstBad}
use Rattle.run_log.specs.declared.present_run.RunFault.{RunFault}
use Rattle.run_log.specs.declared.present_run.RunFault.TheVariants.{Log, Present}

-- the lines record a run of the plan, and this is the cell at its end
pub record IsCellOf (lines : List (List ℕ)) (p : PlannedShop) (c : Cell) : Type 0 where
  pub entries : List Entry
  pub parse : LinesParse p lines entries
  pub run : IsReplayed p c entries

-- this is the present moment after the last one
abbrev pub IsPresent : Option ℕ → ℕ → ℕ → Type 0
IsPresent at last n = (n ≡ present_of at last) × (last ≤ n) × (n ≤ MAX_MOMENT)

-- the lines record these entries, which are a run to this cell, and this is the present moment after it
pub record IsRunAt (lines : List (List ℕ)) (at : Option ℕ) (p : PlannedShop) (c : Cell) (recorded : List Entry) (present : ℕ) : Type 0 where
  pub parses : LinesParse p lines recorded
  pub replayed : IsReplayed p c recorded
  pub present_is : IsPresent at c.last present

-- why there is no run up to the present moment: the first bad line of the log, or else the moment
abbrev pub IsRunFault : List (List ℕ) → Option ℕ → PlannedShop → RunFault → Type 0
IsRunFault lines at p (Log fault) = IsFirstBad p lines fault
IsRunFault lines at p (Present fault) = (c : Cell) × IsCellOf lines p c × IsPresentFault at c.last fault

-- where there is a run, but the moment can't be the present one
abbrev pub OnPresent : (PresentFault → Type 0) → RunFault → Type 0
OnPresent P (Log fault) = ⊥
OnPresent P (Present fault) = P fault
