-- What is claimed to have ended: when that is possible, and the first reason for which it isn't.
use Rattle.std.specs.Prelude.{◌≡◌, ℕ, ◌<◌, ◌≤◌, ◌↔◌, Result, IsOk, IfOk, IfErr}
use Rattle.shop_base.specs.{declared.limits.TheConstants.MAX_MOMENT, Plan.PlannedShop, Plan.jobs, Plan.machines, Plan.steps}
use Rattle.shop_base.specs.{Cell.Cell, Activity.IsAwaited, Activity.IsWorked, Report.CanReport, Report.IsNextMoment}
use Rattle.cell_tables.specs.{declared.claim.Claim.Claim, Claims.claimed, Readings.IsCleanedAfterStep}
use Rattle.cell_tables.specs.declared.claim.Claim.TheVariants.{Report, CleanAfter, FinishStep, CleanAfterStep}
use Rattle.cell_control.specs.{declared.ack.Ack.Ack, Control.Control, Control.IsAnswered}
use Rattle.cell_control.specs.declared.report_fault.ReportFault.{ReportFault}
use Rattle.cell_control.specs.declared.report_fault.ReportFault.TheVariants.{JobOutOfRange, MachineOutOfRange, StepOutOfRange, MomentTooLarge, Backwards, NotExpected, WrongKind}
use Rattle.cell_control.specs.Reports.{IsFirstReason, CanCleanAfter, IsFirstCleanReason, AreOfShop}

-- job j's arrival goes on
abbrev pub IsToArrive : PlannedShop → Cell → ℕ → Type 0
IsToArrive p c j = (due : ℕ) × IsAwaited p c j due

-- job j is at work on its step k
abbrev pub IsAtWork : PlannedShop → Cell → ℕ → ℕ → Type 0
IsAtWork p c j k = (m : ℕ) × (due : ℕ) × IsWorked p c j k m due

-- the job is of the shop, and has such a step
abbrev pub IsStepOfShop : PlannedShop → ℕ → ℕ → Type 0
IsStepOfShop p j k = (j < jobs p) × (k < steps p j)

-- the claim that the operation of job j's step k has ended, at moment t, is possible
pub record CanFinishStep (p : PlannedShop) (c : Cell) (j k t : ℕ) : Type 0 where
  pub works : IsAtWork p c j k
  pub moment : IsNextMoment c t

-- this is the first reason for which it isn't
abbrev pub IsFirstStepReason : PlannedShop → Cell → ℕ → ℕ → ℕ → ReportFault → Type 0
IsFirstStepReason p c j k t JobOutOfRange = jobs p ≤ j
IsFirstStepReason p c j k t StepOutOfRange = (j < jobs p) × (steps p j ≤ k)
IsFirstStepReason p c j k t MomentTooLarge = IsStepOfShop p j k × (MAX_MOMENT < t)
IsFirstStepReason p c j k t (Backwards last) = IsStepOfShop p j k × (t ≤ MAX_MOMENT) × (t < c.last) × (last ≡ c.last)
IsFirstStepReason p c j k t WrongKind = IsStepOfShop p j k × IsNextMoment c t × IsToArrive p c j
IsFirstStepReason p c j k t NotExpected = IsStepOfShop p j k × IsNextMoment c t × (IsToArrive p c j → ⊥) × (IsAtWork p c j k → ⊥)
IsFirstStepReason p c j k t _ = ⊥

-- the claim that machine m was cleaned after job j's step k, at moment t, is possible
pub record CanCleanAfterStep (p : PlannedShop) (c : Cell) (m j k t : ℕ) : Type 0 where
  pub after : IsCleanedAfterStep p c m j k
  pub moment : IsNextMoment c t

-- the machine and the job are of the shop, and the job has such a step
abbrev pub AreOfShopWithStep : PlannedShop → ℕ → ℕ → ℕ → Type 0
AreOfShopWithStep p m j k = AreOfShop p m j × (k < steps p j)

-- this is the first reason for which it isn't
abbrev pub IsFirstStepCleanReason : PlannedShop → Cell → ℕ → ℕ → ℕ → ℕ → ReportFault → Type 0
IsFirstStepCleanReason p c m j k t MachineOutOfRange = machines p ≤ m
IsFirstStepCleanReason p c m j k t JobOutOfRange = (m < machines p) × (jobs p ≤ j)
IsFirstStepCleanReason p c m j k t StepOutOfRange = AreOfShop p m j × (steps p j ≤ k)
IsFirstStepCleanReason p c m j k t MomentTooLarge = AreOfShopWithStep p m j k × (MAX_MOMENT < t)
IsFirstStepCleanReason p c m j k t (Backwards last) = AreOfShopWithStep p m j k × (t ≤ MAX_MOMENT) × (t < c.last) × (last ≡ c.last)
IsFirstStepCleanReason p c m j k t NotExpected = AreOfShopWithStep p m j k × IsNextMoment c t × (IsCleanedAfterStep p c m j k → ⊥)
IsFirstStepCleanReason p c m j k t _ = ⊥

-- what is claimed is possible
abbrev pub CanClaim : PlannedShop → Cell → Claim → Type 0
CanClaim p c (Report report) = CanReport p c report
CanClaim p c (CleanAfter machine job moment) = CanCleanAfter p c machine job moment
CanClaim p c (FinishStep job step moment) = CanFinishStep p c job step moment
CanClaim p c (CleanAfterStep machine job step moment) = CanCleanAfterStep p c machine job step moment

-- this is the first reason for which it isn't
abbrev pub IsClaimReason : PlannedShop → Cell → Claim → ReportFault → Type 0
IsClaimReason p c (Report report) reason = IsFirstReason p c report reason
IsClaimReason p c (CleanAfter machine job moment) reason = IsFirstCleanReason p c machine job moment reason
IsClaimReason p c (FinishStep job step moment) reason = IsFirstStepReason p c job step moment reason
IsClaimReason p c (CleanAfterStep machine job step moment) reason = IsFirstStepCleanReason p c machine job step moment reason

-- no fault but this one is a first reason against it, its fields included
abbrev pub IsOnlyClaimReason : PlannedShop → Cell → Claim → ReportFault → Type 0
IsOnlyClaimReason p c claim reason = (other : ReportFault) → IsClaimReason p c claim other → other ≡ reason

-- what a controller answers to what is claimed: where that is possible it is accepted, as its report; else the first reason is answered, which is the only one, and nothing changes
pub record AnswersClaim (old : Control) (claim : Claim) (answer : Result Ack ReportFault) (new : Control) : Type 0 where
  pub possible : IsOk answer ↔ CanClaim old.planned old.cell claim
  pub answered : IfOk answer (λ ack. IsAnswered old (claimed old.planned claim) ack new)
  pub first_reason : IfErr answer (IsClaimReason old.planned old.cell claim)
  pub only_reason : IfErr answer (IsOnlyClaimReason old.planned old.cell claim)
  pub unchanged : IfErr answer (λ fault. new ≡ old)
