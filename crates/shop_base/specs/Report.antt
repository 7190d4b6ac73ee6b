-- The report of an activity's end: when it is possible, and the cell after it.
use Rattle.std.specs.Prelude.{ℕ, ◌≤◌, None, true}
use Rattle.shop_base.specs.declared.limits.TheConstants.{MAX_MOMENT}
use Rattle.shop_base.specs.declared.report.Report.{Report}
use Rattle.shop_base.specs.declared.report.Report.TheVariants.{Arrive, Finish, Clean}
use Rattle.shop_base.specs.Plan.{PlannedShop}
use Rattle.shop_base.specs.Cell.{Cell, job_in, machine_in, with_job, with_machine}
use Rattle.shop_base.specs.Activity.{Activity, Arrival, Operation, Cleaning, GoesOn}

-- the activity that is said to have ended
abbrev pub ended : Report → Activity
ended (Arrive job moment) = Arrival job
ended (Finish job machine moment) = Operation job machine
ended (Clean machine moment) = Cleaning machine

-- the moment at which it is said to have ended
abbrev pub at : Report → ℕ
at (Arrive job moment) = moment
at (Finish job machine moment) = moment
at (Clean machine moment) = moment

-- the report that an activity has ended at a moment
abbrev pub report_of : Activity → ℕ → Report
report_of (Arrival j) t = Arrive j t
report_of (Operation j m) t = Finish j m t
report_of (Cleaning m) t = Clean m t

-- t can be the next moment: it isn't before the last one, nor past the latest
pub record IsNextMoment (c : Cell) (t : ℕ) : Type 0 where
  pub in_order : c.last ≤ t
  pub in_range : t ≤ MAX_MOMENT

-- the report is possible: its activity is going on, and its moment can be the next
pub record CanReport (p : PlannedShop) (c : Cell) (r : Report) : Type 0 where
  pub going : (due : ℕ) × GoesOn p c (ended r) due
  pub moment : IsNextMoment c (at r)

module _ (c : Cell) where
  -- the cell once job j has become ready, at moment t
  abbrev pub with_ready : ℕ → ℕ → Cell
  with_ready j t = record (with_job c j (record (job_in c j) { ready = true })) { last = t }

  -- once machine m has become clean
  abbrev pub with_clean : ℕ → ℕ → Cell
  with_clean m t = record (with_machine c m (record (machine_in c m) { cleaning = None })) { last = t }

  -- once an activity has ended
  abbrev pub after_end : Activity → ℕ → Cell
  after_end (Arrival j) t = with_ready j t
  after_end (Operation j m) t = with_ready j t
  after_end (Cleaning m) t = with_clean m t

  -- the cell after a report
  abbrev pub after_report : Report → Cell
  after_report r = after_end (ended r) (at r)
