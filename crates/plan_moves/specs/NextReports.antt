-- Which report comes next where everything is reported when it is due, from a present moment on.
use Rattle.std.specs.Prelude.{◌≡◌, ℕ, ◌+◌, ◌<◌, ◌≤◌, max}
use Rattle.shop_base.specs.declared.limits.TheConstants.{MAX_MOMENT}
use Rattle.shop_base.specs.declared.report.Report.{Report}
use Rattle.shop_base.specs.Plan.{PlannedShop, jobs}
use Rattle.shop_base.specs.Cell.{Cell}
use Rattle.shop_base.specs.Activity.{Activity, Arrival, Operation, Cleaning, GoesOn}
use Rattle.shop_base.specs.Report.{ended, at}

-- whose turn it is of activities that are due at one moment: the jobs' in ascending order, and then the machines'
abbrev pub report_turn : PlannedShop → Activity → ℕ
report_turn p (Arrival j) = j
report_turn p (Operation j m) = j
report_turn p (Cleaning m) = jobs p + m

module _ (p : PlannedShop) (t : ℕ) where
  -- the report comes next in cell c: when its activity is due, or at the present moment t if that is past; nothing that goes on is due earlier, and what has its turn before is due later
  pub record IsNextReport (c : Cell) (r : Report) : Type 0 where
    pub due : ℕ
    pub going : GoesOn p c (ended r) due
    pub when : at r ≡ max due t
    pub range : at r ≤ MAX_MOMENT
    pub soonest : (a : Activity) (other : ℕ) → GoesOn p c a other → at r ≤ max other t
    pub first : (a : Activity) (other : ℕ) → GoesOn p c a other → report_turn p a < report_turn p (ended r) → at r < max other t

  -- nothing that goes on is due up to the latest moment
  abbrev pub IsOver : Cell → Type 0
  IsOver c = (a : Activity) (due : ℕ) → GoesOn p c a due → MAX_MOMENT < max due t
