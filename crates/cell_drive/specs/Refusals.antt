-- Why what a line claims is refused, and what is printed of it.
use Rattle.std.specs.Prelude.{◌≡◌, ℕ, List, codes, Bool, true, false, ◌⊎◌, if◌then◌else◌}
use Rattle.shop_base.specs.{Plan.PlannedShop, Cell.Cell}
use Rattle.shop_base.specs.declared.report.Report as reports
use Rattle.shop_base.specs.declared.report.Report.TheVariants.{Arrive, Finish, Clean}
use Rattle.cell_tables.specs.{declared.claim.Claim.Claim, Claims.claim_moment}
use Rattle.cell_tables.specs.{declared.standing.Standing.Standing, Standings.job_standing, Standings.machine_standing}
use Rattle.cell_control.specs.{declared.report_fault.ReportFault.ReportFault, ReasonNames.reason_name}
use Rattle.cell_control.specs.declared.report_fault.ReportFault.TheVariants.{JobOutOfRange, MachineOutOfRange, StepOutOfRange, MomentTooLarge, Backwards, NotExpected, WrongKind, WrongMachine}
use Rattle.cell_control.specs.Claims.{CanClaim, IsClaimReason}
use Rattle.event_lines.specs.declared.details.Detail.{Detail}
use Rattle.event_lines.specs.declared.details.Detail.TheVariants.{Nothing, Last, Stands}
use Rattle.cell_drive.specs.{declared.protocol.Protocol.Protocol, Protocols.leap_base, Protocols.leaps}
use Rattle.cell_drive.specs.declared.refusals.Refusal.{Refusal}
use Rattle.cell_drive.specs.declared.refusals.Refusal.TheVariants.{Reason, Leap}

-- whether the moment of a claim leaps
abbrev pub claim_leaps : Protocol → Cell → Claim → Bool
claim_leaps protocol c claim = leaps protocol c.last (claim_moment claim)

-- whether the reason is looked for before a leap: it is one against the numbers, or the moment is before the last one
abbrev pub is_before_leap : ReportFault → Bool
is_before_leap JobOutOfRange = true
is_before_leap MachineOutOfRange = true
is_before_leap StepOutOfRange = true
is_before_leap MomentTooLarge = true
is_before_leap (Backwards last) = true
is_before_leap NotExpected = false
is_before_leap WrongKind = false
is_before_leap (WrongMachine actual) = false

-- why that is refused which has this first reason against it, and leaps or doesn't
abbrev pub first_refusal : Bool → ReportFault → Refusal
first_refusal leaps reason = if is_before_leap reason then Reason reason else (if leaps then Leap else Reason reason)

-- the claim is refused for this: a reason is against it, or it is possible and leaps
abbrev pub IsRefusal : Protocol → PlannedShop → Cell → Claim → Refusal → Type 0
IsRefusal protocol p c claim refusal =
    ((reason : ReportFault) × IsClaimReason p c claim reason × (refusal ≡ first_refusal (claim_leaps protocol c claim) reason))
    ⊎ (CanClaim p c claim × (claim_leaps protocol c claim ≡ true) × (refusal ≡ Leap))

-- the claim is accepted: it is possible, and doesn't leap
abbrev pub IsAdmissible : Protocol → PlannedShop → Cell → Claim → Type 0
IsAdmissible protocol p c claim = CanClaim p c claim × (claim_leaps protocol c claim ≡ false)

-- the name of the refusal, as it stands in a line
abbrev pub refusal_word : Refusal → List ℕ
refusal_word (Reason reason) = reason_name reason
refusal_word Leap = codes "Leap"

-- how it stands with the job or the machine of a report
abbrev pub standing_of : PlannedShop → Cell → reports.Report → Standing
standing_of p c (Arrive job at) = job_standing p c job
standing_of p c (Finish job machine at) = job_standing p c job
standing_of p c (Clean machine at) = machine_standing p c machine

-- what the controller has instead of what was reported
abbrev pub reason_detail : PlannedShop → Cell → reports.Report → ReportFault → Detail
reason_detail p c report JobOutOfRange = Nothing
reason_detail p c report MachineOutOfRange = Nothing
reason_detail p c report StepOutOfRange = Nothing
reason_detail p c report MomentTooLarge = Nothing
reason_detail p c report (Backwards last) = Last last
reason_detail p c report NotExpected = Stands (standing_of p c report)
reason_detail p c report WrongKind = Stands (standing_of p c report)
reason_detail p c report (WrongMachine actual) = Stands (standing_of p c report)

-- of a leap, the moment from which it counts
abbrev pub printed_detail : Protocol → PlannedShop → Cell → reports.Report → Refusal → Detail
printed_detail protocol p c report (Reason reason) = reason_detail p c report reason
printed_detail protocol p c report Leap = Last (leap_base protocol c.last)

-- what is printed behind the name of a refusal, from version 2 of the lines on
abbrev pub refusal_detail : Protocol → PlannedShop → Cell → reports.Report → Refusal → Detail
refusal_detail protocol p c report refusal = if protocol.version_2 then printed_detail protocol p c report refusal else Nothing
