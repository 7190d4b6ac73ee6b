-- The report that an activity has ended at a moment: what it says, and when it is possible.
use Rattle.std.proofs.Common.{◌≡◌, ℕ, refl}
use Rattle.shop_base.specs.Plan.{PlannedShop}
use Rattle.shop_base.specs.Cell.{Cell}
use Rattle.shop_base.specs.Activity.{Activity, Arrival, Operation, Cleaning, GoesOn}
use Rattle.shop_base.specs.Report.{ended, at, report_of, IsNextMoment, CanReport, after_end, after_report}

pub ended-report_of : (a : Activity) (t : ℕ) → ended (report_of a t) ≡ a
ended-report_of (Arrival j) t = refl
ended-report_of (Operation j m) t = refl
ended-report_of (Cleaning m) t = refl

pub at-report_of : (a : Activity) (t : ℕ) → at (report_of a t) ≡ t
at-report_of (Arrival j) t = refl
at-report_of (Operation j m) t = refl
at-report_of (Cleaning m) t = refl

pub after_report-of : (c : Cell) (a : Activity) (t : ℕ) → after_report c (report_of a t) ≡ after_end c a t
after_report-of c (Arrival j) t = refl
after_report-of c (Operation j m) t = refl
after_report-of c (Cleaning m) t = refl

-- it is possible where the activity is going on, and the moment can be the next
pub can-report_of : (p : PlannedShop) (c : Cell) (a : Activity) (due t : ℕ) → GoesOn p c a due → IsNextMoment c t → CanReport p c (report_of a t)
can-report_of p c (Arrival j) due t going moment = record { going = (due, going); moment = moment }
can-report_of p c (Operation j m) due t going moment = record { going = (due, going); moment = moment }
can-report_of p c (Cleaning m) due t going moment = record { going = (due, going); moment = moment }
