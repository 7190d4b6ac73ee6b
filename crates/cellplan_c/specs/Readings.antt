-- What the calls that read a cell answer.
use Rattle.std.specs.Prelude.{◌≡◌, ◌≢◌, ℕ, ◌<◌, ◌≤◌, ◌↔◌, ◌⊎◌, Option, None, MatchOption, option_map}
use Rattle.shop_base.specs.Plan.{jobs}
use Rattle.shop_base.specs.Ends.{HasEnded}
use Rattle.shop_base.specs.ReportsLeft.{reports_left}
use Rattle.cell_control.specs.Readings.{IsPhaseOf}
use Rattle.cell_control.specs.declared.phase.Phase.{Phase as Whereabouts}
use Rattle.cell_control.specs.Control.{Control}
use Rattle.cellplan_c.specs.declared.cell.Cell.{Cell}
use Rattle.cellplan_c.specs.declared.numbers.Phase.{Phase}
use Rattle.cellplan_c.specs.Numbers.{phase_numbers, answer_of}
use Rattle.cellplan_c.specs.Calls.{kept_leaving}
use Rattle.cellplan_c.specs.Cells.{Holding}

-- the call looks for something in the controller that the cell holds: it writes what it finds, at status 0, or finds none, at 7; and 8 says that the cell holds none. The cell stays as it was, and what isn't written too
pub record Finds {A : Type 0} (old new : Cell) (status : ℕ) (before after : A) (Is : Control → Option A → Type 0) : Type 0 where
  pub found : Holding old (λ held. Is held (answer_of status after))
  pub statuses : Holding old (λ held. (status ≡ 0) ⊎ (status ≡ 7))
  pub no_cell : (old.slot.held ≡ None) ↔ (status ≡ 8)
  pub unchanged : new.slot.held ≡ old.slot.held
  pub unwritten : status ≢ 0 → after ≡ before

-- the call writes what is always there of the controller that the cell holds, at status 0; and 8 says that the cell holds none
pub record Reads {A : Type 0} (old new : Cell) (status : ℕ) (before after : A) (Is : Control → A → Type 0) : Type 0 where
  pub written : Holding old (λ held. (status ≡ 0) × Is held after)
  pub no_cell : (old.slot.held ≡ None) ↔ (status ≡ 8)
  pub unchanged : new.slot.held ≡ old.slot.held
  pub unwritten : status ≢ 0 → after ≡ before

-- where the job is, as numbers; none for a number that is no job's
abbrev pub IsPhaseFound : Control → ℕ → Option Phase → Type 0
IsPhaseFound held job answer =
    (place : Option Whereabouts) × (answer ≡ option_map phase_numbers place) × IsPhaseOf held.planned held.cell job place

-- the moment kept for the job's leaving; none for a number that is no job's
abbrev pub IsLeaveOf : Control → ℕ → Option ℕ → Type 0
IsLeaveOf held job answer = MatchOption answer (jobs held.planned ≤ job) (λ moment. (job < jobs held.planned) × (moment ≡ kept_leaving held job))

-- so many reports are left, and none exactly where the run has ended
pub record AreReportsLeft (held : Control) (left : ℕ) : Type 0 where
  pub left_is : left ≡ reports_left held.planned held.cell
  pub ended : HasEnded held.planned held.cell ↔ (left ≡ 0)
