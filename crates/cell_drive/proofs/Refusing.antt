-- What is claimed, and why it is refused.
use Rattle.std.proofs.Common.{◌≡◌, Bool, true, false, cond, sym, ap, ◌∙◌, subst, inl, inr}
use Rattle.shop_base.specs.{Plan.{PlannedShop, IsWellShaped}, Cell.Cell, Report.{ended, CanReport}, Sound.IsSound}
use Rattle.shop_base.specs.declared.report.Report as reports
use Rattle.shop_base.specs.declared.report.Report.TheVariants.{Arrive, Finish, Clean}
use Rattle.cell_control.specs.declared.report_fault.ReportFault.{ReportFault, TheVariants.{JobOutOfRange, MachineOutOfRange, StepOutOfRange, MomentTooLarge, Backwards, NotExpected, WrongKind, WrongMachine}}
use Rattle.cell_control.specs.Reports.{IsOfShop}
use Rattle.cell_control.proofs.ClaimReasons.{claim_reason-cannot, only_claim_reason}
use Rattle.cell_tables.specs.{declared.claim.Claim.{Claim, TheVariants.{Report, FinishStep, CleanAfter, CleanAfterStep}}, Claims.claimed}
use Rattle.cell_drive.specs.declared.protocol.Protocol.{Protocol}
use Rattle.cell_drive.specs.declared.refusals.Refusal.{Refusal, TheVariants.{Reason, Leap}}
use Rattle.cell_control.specs.Claims.{CanClaim, IsClaimReason}
use Rattle.cell_drive.specs.Refusals.{IsRefusal, IsAdmissible, claim_leaps, first_refusal, is_before_leap}
use Rattle.cell_drive.proofs.ShopEntries.{report_of_shop}

-- what can be reported is of the shop
pub reported_of_shop : (p : PlannedShop) (c : Cell) (report : reports.Report) → IsWellShaped p → IsSound p c → CanReport p c report → IsOfShop p (ended report)
reported_of_shop p c (Arrive job at) shaped sound can = (report_of_shop p c (Arrive job at) shaped sound can).0
reported_of_shop p c (Finish job machine at) shaped sound can = (report_of_shop p c (Finish job machine at) shaped sound can).0.0
reported_of_shop p c (Clean machine at) shaped sound can = (report_of_shop p c (Clean machine at) shaped sound can).0

module _ (p : PlannedShop) (c : Cell) where
  -- what has a reason against it that is looked for after a leap is of the shop
  claim_of_shop : (claim : Claim) (reason : ReportFault) → IsClaimReason p c claim reason → is_before_leap reason ≡ false → IsOfShop p (ended (claimed p claim))
  claim_of_shop claim JobOutOfRange is after = absurd (cc)
  claim_of_shop claim MachineOutOfRange is after = absurd (cc)
  claim_of_shop claim StepOutOfRange is after = absurd (cc)
  claim_of_shop claim MomentTooLarge is after = absurd (cc)
  claim_of_shop claim (Backwards last) is after = absurd (cc)
  claim_of_shop (Report report) NotExpected is after = is.0.of_shop
  claim_of_shop (Report report) WrongKind is after = is.0.of_shop
  claim_of_shop (Report report) (WrongMachine actual) is after = is.0.of_shop
  claim_of_shop (FinishStep job step at) NotExpected is after = is.0.0
  claim_of_shop (FinishStep job step at) WrongKind is after = is.0.0
  claim_of_shop (FinishStep job step at) (WrongMachine actual) is after = absurd is
  claim_of_shop (CleanAfter machine job at) NotExpected is after = is.0.0
  claim_of_shop (CleanAfter machine job at) WrongKind is after = absurd is
  claim_of_shop (CleanAfter machine job at) (WrongMachine actual) is after = absurd is
  claim_of_shop (CleanAfterStep machine job step at) NotExpected is after = is.0.0.0
  claim_of_shop (CleanAfterStep machine job step at) WrongKind is after = absurd is
  claim_of_shop (CleanAfterStep machine job step at) (WrongMachine actual) is after = absurd is

  first_named : (before leaps : Bool) (reason given : ReportFault) → Reason reason ≡ cond before (Reason given) (cond leaps Leap (Reason given)) → reason ≡ given
  first_named true leaps reason given same = cc
  first_named false true reason given same = absurd (cc)
  first_named false false reason given same = cc

  -- what is refused for a reason has that reason against it
  pub refused_reason : (protocol : Protocol) (claim : Claim) (reason : ReportFault) → IsRefusal protocol p c claim (Reason reason) → IsClaimReason p c claim reason
  refused_reason protocol claim reason (inl (given, is, same)) =
      subst (IsClaimReason p c claim) (sym (first_named (is_before_leap given) (claim_leaps protocol c claim) reason given same)) is
  refused_reason protocol claim reason (inr (can, does_leap, same)) = absurd (cc)

  -- and so it is of the shop, where that is looked for after a leap
  pub refused_of_shop : (protocol : Protocol) (claim : Claim) (reason : ReportFault) → IsRefusal protocol p c claim (Reason reason) → is_before_leap reason ≡ false → IsOfShop p (ended (claimed p claim))
  refused_of_shop protocol claim reason is after = claim_of_shop claim reason (refused_reason protocol claim reason is) after

  module _ (shaped : IsWellShaped p) (sound : IsSound p c) where
    module _ (protocol : Protocol) (claim : Claim) where
      -- what is claimed is refused for one thing
      pub one_refusal : (one other : Refusal) → IsRefusal protocol p c claim one → IsRefusal protocol p c claim other → other ≡ one
      one_refusal one other (inl (reason, is, same)) (inl (reason', is', same')) =
          same' ∙ ap (first_refusal (claim_leaps protocol c claim)) (only_claim_reason p c claim reason is reason' is') ∙ sym same
      one_refusal one other (inl (reason, is, same)) (inr (can, does_leap, same')) = absurd (claim_reason-cannot p c claim reason shaped sound is can)
      one_refusal one other (inr (can, does_leap, same)) (inl (reason, is, same')) = absurd (claim_reason-cannot p c claim reason shaped sound is can)
      one_refusal one other (inr (can, does_leap, same)) (inr (can', does_leap', same')) = same' ∙ sym same

      -- or it is accepted
      pub refused_or_admissible : (refusal : Refusal) → IsRefusal protocol p c claim refusal → IsAdmissible protocol p c claim → ⊥
      refused_or_admissible refusal (inl (reason, is, same)) (can, stays) = claim_reason-cannot p c claim reason shaped sound is can
      refused_or_admissible refusal (inr (can, does_leap, same)) (can', stays) = absurd (cc)
