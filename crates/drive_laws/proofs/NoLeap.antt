-- No punctual report leaps, where no time of the plan is longer than the longest that may pass.
use Rattle.std.proofs.Common.{◌≡◌, ℕ, ◌+◌, ◌-◌, ◌≤◌, nat_lt, Bool, true, false, cond, Option, Some, le-ltb, ltb-true, refl, ap, ◌∙◌, arith}
use Rattle.shop_base.specs.{Plan.PlannedShop, Cell.Cell, Activity.{Activity, Arrival, Operation, Cleaning, GoesOn}}
use Rattle.shop_base.specs.{Sound.IsSound, Report.ended}
use Rattle.shop_base.proofs.{InShop.{outside_in_shop, cleaned_in_shop}, Keeping.run-sound, Visits.visits_job}
use Rattle.cell_tables.specs.{Claims.{claimed, claim_moment}, Events.events_of}
use Rattle.cell_control.proofs.ClaimReasons.{claim_can}
use Rattle.cell_drive.specs.{declared.protocol.Protocol.Protocol, Protocols.{leap_base, leaps, is_too_long}}
use Rattle.cell_drive.specs.OneRun.{cell_after}
use Rattle.drive_laws.specs.LeapLaw.{HasNoLongerTime, NoPunctualReportLeaps}
use Rattle.drive_laws.proofs.{BegunByLast.{AreBegunByLast, begun_in_run}, ClaimMoments.claimed_at}

-- whatever goes on is due so soon after the last moment
due_soon : (p : PlannedShop) (c : Cell) (max_gap : ℕ) → IsSound p c → AreBegunByLast c → HasNoLongerTime p max_gap → (a : Activity) (due : ℕ) → GoesOn p c a due → due ≤ c.last + max_gap
due_soon p c max_gap sound begun short (Arrival j) due is = omega (arith, is.is_due, short.releases j (outside_in_shop p c j sound is.outside))
due_soon p c max_gap sound begun short (Operation j m) due (k, is) =
    omega (arith, is.is_due, sound.begun j, short.nominals j k (visits_job p j k m is.on.visits) is.on.visits.within)
due_soon p c max_gap sound begun short (Cleaning m) due (s, is) =
    omega (arith, is.is_due, begun m s is.is_cleaned, short.cleanings m (cleaned_in_shop p c m s sound is.is_cleaned))

-- a leap counts from the last moment or a later one
counted_from : (last from : ℕ) (is : Bool) → nat_lt last from ≡ is → last ≤ cond is from last
counted_from last from true is = omega (arith, ltb-true last from is)
counted_from last from false is = omega arith

no_leap : (protocol : Protocol) (max_gap last at : ℕ) → protocol.max_gap ≡ Some max_gap → at ≤ last + max_gap → leaps protocol last at ≡ false
no_leap protocol max_gap last at is soon =
    let base = leap_base protocol last in
    let from : last ≤ base = counted_from last protocol.from (nat_lt last protocol.from) refl in
    ap (λ (o : Option ℕ). is_too_long o (at - base)) is ∙ le-ltb max_gap (at - base) (omega (arith, from, soon))

pub no_punctual_report_leaps : NoPunctualReportLeaps
no_punctual_report_leaps p protocol max_gap entries claim shaped is short run can punctual =
    let c = cell_after p entries in
    let r = claimed p claim in
    let going = (claim_can p c claim can).going in
    let soon = due_soon p c max_gap (run-sound p (events_of entries) shaped run) (begun_in_run p shaped (events_of entries) run) short (ended r) going.0 going.1 in
    (can, no_leap protocol max_gap c.last (claim_moment claim) is (omega (arith, soon, punctual (ended r) going.0 going.1, claimed_at p claim)))
