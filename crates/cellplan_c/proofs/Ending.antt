-- What is reported, and what comes of it.
use Rattle.std.proofs.Common.{◌≡◌, ℕ, ◌≤◌, ◌↔◌, Bool, Result, Ok, Err, IfOk, IfErr, ◌⊎◌, inl, inr, refl, sym, subst, arith}
use Rattle.shop_base.specs.declared.limits.TheConstants.{MAX_MOMENT}
use Rattle.shop_base.specs.Sound.{IsSound}
use Rattle.shop_base.specs.Report.{IsNextMoment}
use Rattle.shop_base.specs.declared.report.Report as reports
use Rattle.cell_control.specs.declared.ack.Ack.{Ack}
use Rattle.cell_control.specs.declared.report_fault.ReportFault.{ReportFault}
use Rattle.cell_control.specs.declared.report_fault.ReportFault.TheVariants.{JobOutOfRange, MachineOutOfRange, StepOutOfRange, MomentTooLarge, Backwards, NotExpected, WrongKind, WrongMachine}
use Rattle.cell_control.specs.Control.{Control, IsAnswered}
use Rattle.cell_control.specs.Promises as promise
use Rattle.cell_tables.specs.{declared.claim.Claim.Claim, Claims.claimed}
use Rattle.cell_tables.specs.declared.claim.Claim.TheVariants.{Report, CleanAfter, FinishStep, CleanAfterStep}
use Rattle.cell_control.specs.Claims.{CanClaim, IsClaimReason, IsOnlyClaimReason}
use Rattle.cellplan_c.specs.Numbers.{fault_number, fault_detail}
use Rattle.cellplan_c.specs.Claimed.{IfGoesOnNow, IsCalledFor, Calls}
use Rattle.cellplan_c.specs.Cells.{IsReportAnswered}

-- what holds holds if something goes on
pub goes_anyway : (v : Control) (claim : Claim) (Holds : Type 0) → Holds → IfGoesOnNow v claim Holds
goes_anyway v (Report report) Holds holds = λ due goes now. holds
goes_anyway v (CleanAfter machine job at) Holds holds = λ after now. holds
goes_anyway v (FinishStep job step at) Holds holds = λ works now. holds
goes_anyway v (CleanAfterStep machine job step at) Holds holds = λ after now. holds

-- and so does what follows from it
goes_further : (v : Control) (claim : Claim) (Holds More : Type 0) → (Holds → More) → IfGoesOnNow v claim Holds → IfGoesOnNow v claim More
goes_further v (Report report) Holds More more goes = λ due going now. more (goes due going now)
goes_further v (CleanAfter machine job at) Holds More more goes = λ after now. more (goes after now)
goes_further v (FinishStep job step at) Holds More more goes = λ works now. more (goes works now)
goes_further v (CleanAfterStep machine job step at) Holds More more goes = λ after now. more (goes after now)

-- the claim is no report
abbrev pub IsNoReport : Claim → Type 0
IsNoReport (Report report) = ⊥
IsNoReport claim = Unit {0}

pub no_report : (claim : Claim) → ((report : reports.Report) → claim ≡ Report report → ⊥) → IsNoReport claim
no_report (Report report) other = other report refl
no_report (CleanAfter machine job at) other = tt
no_report (FinishStep job step at) other = tt
no_report (CleanAfterStep machine job step at) other = tt

module _ (v : Control) where
  -- the last moment can come next
  now_next : (at : ℕ) → IsSound v.planned v.cell → at ≡ v.cell.last → IsNextMoment v.cell at
  now_next at sound now = record { in_order = omega (arith, now); in_range = subst (λ (n : ℕ). n ≤ MAX_MOMENT) (sym now) sound.last_in_range }

  either : (claim : Claim) (outcome : Result Ack ReportFault) (new : Control) → IfOk outcome (λ ack. IsAnswered v (claimed v.planned claim) ack new) → IfErr outcome (λ fault. new ≡ v)
      → IsCalledFor v claim new ⊎ (new ≡ v)
  either claim (Ok ack) new answered same = inl (_, promise.answered v (claimed v.planned claim) ack new answered)
  either claim (Err fault) new answered same = inr same

  -- what goes on can end at the last moment, but for a report, of which a call of its own says so
  pub claim_now : (claim : Claim) (Holds : Type 0) → IsNoReport claim → IsSound v.planned v.cell → (CanClaim v.planned v.cell claim → Holds) → IfGoesOnNow v claim Holds
  claim_now (Report report) Holds none sound holds = absurd none
  claim_now (CleanAfter machine job at) Holds none sound holds = λ after now. holds (record { after = after; moment = now_next at sound now })
  claim_now (FinishStep job step at) Holds none sound holds = λ works now. holds (record { works = works; moment = now_next at sound now })
  claim_now (CleanAfterStep machine job step at) Holds none sound holds = λ after now. holds (record { after = after; moment = now_next at sound now })

  -- a claim that is no report calls for the report of what it names, or changes nothing
  pub claim_called : (claim : Claim) (outcome : Result Ack ReportFault) (new : Control) → IsNoReport claim
      → IfOk outcome (λ ack. IsAnswered v (claimed v.planned claim) ack new) → IfErr outcome (λ fault. new ≡ v) → Calls v claim new
  claim_called (Report report) outcome new none answered same = absurd none
  claim_called (CleanAfter machine job at) outcome new none answered same = either (CleanAfter machine job at) outcome new answered same
  claim_called (FinishStep job step at) outcome new none answered same = either (FinishStep job step at) outcome new answered same
  claim_called (CleanAfterStep machine job step at) outcome new none answered same = either (CleanAfterStep machine job step at) outcome new answered same

number_high : (fault : ReportFault) → 16 ≤ fault_number fault
number_high JobOutOfRange = omega arith
number_high MachineOutOfRange = omega arith
number_high MomentTooLarge = omega arith
number_high (Backwards last) = omega arith
number_high NotExpected = omega arith
number_high WrongKind = omega arith
number_high (WrongMachine actual) = omega arith
number_high StepOutOfRange = omega arith

-- what a refusal comes to
pub refused_answer : (old : Control) (claim : Claim) (fault : ReportFault) (number detail : ℕ) (late : Bool) (new : Control) (Accepted : Type 0) → (Accepted → ⊥) → Accepted ↔ CanClaim old.planned old.cell claim
    → IsClaimReason old.planned old.cell claim fault → IsOnlyClaimReason old.planned old.cell claim fault → Calls old claim new → IfGoesOnNow old claim Accepted → number ≡ fault_number fault → detail ≡ fault_detail fault
    → IsReportAnswered number late detail old claim new
refused_answer old claim fault number detail late new Accepted refused possible first only called goes number_is detail_is = record {
  possible = ((λ good. absurd (omega (arith, good, number_is, number_high fault))), λ can. absurd (refused (possible.1 can)));
  answered = λ good. absurd (omega (arith, good, number_is, number_high fault));
  reason = λ bad. (fault, number_is, detail_is, first, only);
  called = called;
  never_refused = goes_further old claim Accepted (number ≡ 0) (λ accepted. absurd (refused accepted)) goes;
}
