-- A controller that begins with a cell in mid-run, and why one doesn't.
use Rattle.std.specs.Prelude.{◌≡◌, ℕ, true}
use Rattle.shop_base.specs.{Plan.PlannedShop, Cell.Cell, Report.IsNextMoment}
use Rattle.shop_base.specs.ReportsLeft.{reports_left}
use Rattle.alt_graph.specs.Evidence.{IsCycle}
use Rattle.plan_verifier.specs.Rest.{AreOrderedAhead}
use Rattle.cell_control.specs.{declared.rest_fault.RestFault.RestFault, Control.Control, Settled.HasSettled}
use Rattle.cell_control.specs.declared.rest_fault.RestFault.TheVariants.{Cycle, Memory}

-- one that begins with cell c of this plan at moment t: the moments kept are the greatest lengths of paths ahead of that cell, and what could move then has moved
pub record IsBegun (p : PlannedShop) (c : Cell) (t : ℕ) (new : Control) : Type 0 where
  pub moment : IsNextMoment c t
  pub planned : new.planned ≡ p
  pub ordered : AreOrderedAhead p c t new.times
  pub began : new.began ≡ t
  pub settled : HasSettled p t c new.orders new.cell
  pub left : new.left ≡ reports_left p c
  pub punctual : new.punctual ≡ true

-- why the rest of a run isn't driven by this plan: it has this cycle, or memory ran out
abbrev pub IsRestFault : PlannedShop → RestFault → Type 0
IsRestFault p (Cycle nodes) = IsCycle p nodes.items
IsRestFault p Memory = Unit {0}
