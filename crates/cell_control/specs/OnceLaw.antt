-- The laws on what is accepted once, and on copies.
use Rattle.std.specs.Prelude.{◌≡◌, ℕ, List, [], ◌∷◌, ◌++◌, ◌⊎◌}
use Rattle.shop_base.specs.declared.report.Report as reports
use Rattle.shop_base.specs.declared.report.Report.TheVariants.{Arrive, Finish, Clean}
use Rattle.shop_base.specs.declared.move_order.Spot.TheVariants.{At}
use Rattle.shop_base.specs.{Plan.PlannedShop, Plan.Visits, Plan.IsWellShaped, Cell.Cell, Cell.IsOn}
use Rattle.shop_base.specs.{Activity.Arrival, Activity.Operation, Activity.Cleaning, Report.ended, Report.CanReport}
use Rattle.shop_base.specs.{Run.Event, Run.Reported, Run.Moved, Run.IsRun, Run.ends_in}
use Rattle.shop_base.specs.AtMostOnceLaw.{IsVisitedAgain, HasWorked}
use Rattle.cell_tables.specs.{declared.claim.Claim.Claim, Claims.claimed, Readings.IsCleanedAfterStep}
use Rattle.cell_tables.specs.declared.claim.Claim.TheVariants.{Report, CleanAfter, FinishStep, CleanAfterStep}
use Rattle.cell_control.specs.Claims.{CanClaim}

-- an end: of a job's arrival, of the operation of its step, or of the cleaning of a machine after that
pub data NamedEnd : Type 0 where
  Arrived : (job : ℕ) → NamedEnd
  Finished : (job step : ℕ) → NamedEnd
  Cleaned : (machine job step : ℕ) → NamedEnd

-- in this cell the report says that end
abbrev pub ReportsEnd : PlannedShop → Cell → reports.Report → NamedEnd → Type 0
ReportsEnd p c r (Arrived j) = ended r ≡ Arrival j
ReportsEnd p c r (Finished j k) = (m : ℕ) × (ended r ≡ Operation j m) × IsOn p c j k m
ReportsEnd p c r (Cleaned m j k) = (ended r ≡ Cleaning m) × IsCleanedAfterStep p c m j k

-- in any run, once an end was reported, no report that says it is possible again, at whatever moment
abbrev pub NoNamedEndIsAcceptedTwice : Type 0
NoNamedEndIsAcceptedTwice = (p : PlannedShop) (es fs : List Event) (r again : reports.Report) (end : NamedEnd) → IsWellShaped p → IsRun p (es ++ Reported r ∷ fs)
    → ReportsEnd p (ends_in p es) r end → ReportsEnd p (ends_in p (es ++ Reported r ∷ fs)) again end → CanReport p (ends_in p (es ++ Reported r ∷ fs)) again → ⊥

-- job j visits machine m in step k, and in no other
pub record IsOnlyVisit (p : PlannedShop) (j k m : ℕ) : Type 0 where
  pub visits : Visits p j k m
  pub only : (l : ℕ) → Visits p j l m → l ≡ k

-- the claim says this end, in whichever cell: it names the step, or a machine that its job visits once
abbrev pub Names : PlannedShop → Claim → NamedEnd → Type 0
Names p (Report (Arrive j t)) end = end ≡ Arrived j
Names p (Report (Finish j m t)) end = (k : ℕ) × IsOnlyVisit p j k m × (end ≡ Finished j k)
Names p (Report (Clean m t)) end = ⊥
Names p (CleanAfter m j t) end = (k : ℕ) × IsOnlyVisit p j k m × (end ≡ Cleaned m j k)
Names p (FinishStep j k t) end = end ≡ Finished j k
Names p (CleanAfterStep m j k t) end = end ≡ Cleaned m j k

-- in any run, once a claim of an end was accepted, no claim that names this end is possible, at whatever moment
abbrev pub NoClaimIsAcceptedTwice : Type 0
NoClaimIsAcceptedTwice = (p : PlannedShop) (es fs : List Event) (claim again : Claim) (end : NamedEnd) → IsWellShaped p → IsRun p (es ++ Reported (claimed p claim) ∷ fs)
    → CanClaim p (ends_in p es) claim → Names p claim end → Names p again end → CanClaim p (ends_in p (es ++ Reported (claimed p claim) ∷ fs)) again → ⊥

-- ---- copies

-- the same claim at another moment
abbrev pub copy_at : Claim → ℕ → Claim
copy_at (Report (Arrive j s)) t = Report (Arrive j t)
copy_at (Report (Finish j m s)) t = Report (Finish j m t)
copy_at (Report (Clean m s)) t = Report (Clean m t)
copy_at (CleanAfter m j s) t = CleanAfter m j t
copy_at (FinishStep j k s) t = FinishStep j k t
copy_at (CleanAfterStep m j k s) t = CleanAfterStep m j k t

-- among the events the job enters the machine
abbrev pub HasEntered : ℕ → ℕ → List Event → Type 0
HasEntered j m [] = ⊥
HasEntered j m (Reported r ∷ es) = HasEntered j m es
HasEntered j m (Moved o ∷ es) = ((o.job ≡ j) × (o.target ≡ At m)) ⊎ HasEntered j m es

-- the route visits the machine again, and among the events the job has entered it
abbrev pub HasReturned : PlannedShop → ℕ → ℕ → List Event → Type 0
HasReturned p j m fs = ((k : ℕ) × (l : ℕ) × IsVisitedAgain p j k l m) × HasEntered j m fs

-- after these events a copy of the claim may be accepted: of an operation on a machine, or of the cleaning after a job, once the job has entered the machine again; of a cleaning that names no job, once another job has been worked there
abbrev pub MayBeCopied : PlannedShop → Claim → List Event → Type 0
MayBeCopied p (Report (Arrive j t)) fs = ⊥
MayBeCopied p (Report (Finish j m t)) fs = HasReturned p j m fs
MayBeCopied p (Report (Clean m t)) fs = HasWorked m fs
MayBeCopied p (CleanAfter m j t) fs = HasReturned p j m fs
MayBeCopied p (FinishStep j k t) fs = ⊥
MayBeCopied p (CleanAfterStep m j k t) fs = ⊥

-- in any run, once a claim was accepted, a copy of it, at whatever moment, is possible only so
abbrev pub ACopyIsRefused : Type 0
ACopyIsRefused = (p : PlannedShop) (es fs : List Event) (claim : Claim) (t : ℕ) → IsWellShaped p → IsRun p (es ++ Reported (claimed p claim) ∷ fs)
    → CanClaim p (ends_in p es) claim → CanClaim p (ends_in p (es ++ Reported (claimed p claim) ∷ fs)) (copy_at claim t) → MayBeCopied p claim fs
