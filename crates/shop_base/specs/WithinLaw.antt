-- The laws of runs whose reports come within kept moments, however long anything takes: es is any run that keeps the plan, by any controller, and t a present moment.
use Rattle.std.specs.Prelude.{ℕ, ◌<◌, List, ◌++◌}
use Rattle.shop_base.specs.declared.node.Node.{Node}
use Rattle.shop_base.specs.declared.report.Report.{Report}
use Rattle.shop_base.specs.Plan.{PlannedShop, jobs, IsWellShaped}
use Rattle.shop_base.specs.Cell.{Cell, IsGone}
use Rattle.shop_base.specs.Activity.{Activity, GoesOn, IsIdle}
use Rattle.shop_base.specs.Report.{report_of, IsNextMoment, CanReport}
use Rattle.shop_base.specs.Run.{Event, IsRun, ends_in}
use Rattle.shop_base.specs.Punctual.{ArePunctualFrom}
use Rattle.shop_base.specs.Ends.{IsInTime, IsOutByBudget}
use Rattle.shop_base.specs.Graph.{RanksRise}
use Rattle.shop_base.specs.KeptMoments.{KeepsMoments, KeepsLeaving}
use Rattle.shop_base.specs.Ahead.{MeetBudgetsAhead, IsScheduleAhead, GoesOnTo}
use Rattle.shop_base.specs.Within.{IsWithin, AreWithin, AreByTheirOwn, AreMadeBy, CanBeKept}

-- in time within: where ranks rise and moments can be kept, and each report since comes within them, each job that isn't gone keeps to the moment of its leaving; so where that meets the budgets it is in time, and out by its budget once it is gone. Neither the releases nor any nominal or cleaning time is in it
abbrev pub InTimeWithin : Type 0
InTimeWithin = (p : PlannedShop) (rank kept : Node → ℕ) (es : List Event) (t : ℕ) (rs : List Report) (fs : List Event) (end : Cell)
    → IsWellShaped p → RanksRise p rank → IsRun p es → IsNextMoment (ends_in p es) t → CanBeKept p (ends_in p es) t kept
    → GoesOnTo p (ends_in p es) t rs fs end → AreWithin p kept (ends_in p es) fs
    → (j : ℕ) → j < jobs p → (IsGone p (ends_in p es) j → ⊥) → KeepsLeaving p kept end j
    × (MeetBudgetsAhead p (ends_in p es) kept → IsInTime p end j × (IsGone p end j → IsOutByBudget p end j))

-- where the moments fit what is ahead, and each report since comes within them, each move is made at or before the moment kept for it
abbrev pub EachMoveIsInTime : Type 0
EachMoveIsInTime = (p : PlannedShop) (rank kept : Node → ℕ) (es : List Event) (t : ℕ) (rs : List Report) (fs : List Event) (end : Cell)
    → IsRun p es → IsNextMoment (ends_in p es) t → IsScheduleAhead p (ends_in p es) t rank kept
    → GoesOnTo p (ends_in p es) t rs fs end → AreWithin p kept (ends_in p es) fs → AreMadeBy p kept (ends_in p es) fs

-- and they still fit what is ahead then: what goes on is due by the moment of what it holds up
abbrev pub MomentsStillFit : Type 0
MomentsStillFit = (p : PlannedShop) (rank kept : Node → ℕ) (es : List Event) (t : ℕ) (rs : List Report) (fs : List Event) (end : Cell)
    → IsRun p es → IsNextMoment (ends_in p es) t → IsScheduleAhead p (ends_in p es) t rank kept
    → GoesOnTo p (ends_in p es) t rs fs end → AreWithin p kept (ends_in p es) fs → KeepsMoments p kept end

-- so a report in time is always still possible: of each activity that goes on then, at the last moment
abbrev pub AReportInTimeIsPossible : Type 0
AReportInTimeIsPossible = (p : PlannedShop) (rank kept : Node → ℕ) (es : List Event) (t : ℕ) (rs : List Report) (fs : List Event) (end : Cell)
    → IsRun p es → IsNextMoment (ends_in p es) t → IsScheduleAhead p (ends_in p es) t rank kept
    → GoesOnTo p (ends_in p es) t rs fs end → AreWithin p kept (ends_in p es) fs
    → (a : Activity) (due : ℕ) → GoesOn p end a due
    → CanReport p end (report_of a end.last) × IsWithin p kept end (report_of a end.last)

-- punctual reports are within moments that fit, and so they are where what was overdue at the present moment ends at it
abbrev pub PunctualReportsAreWithin : Type 0
PunctualReportsAreWithin = (p : PlannedShop) (rank kept : Node → ℕ) (es : List Event) (t : ℕ) (rs : List Report) (fs : List Event) (end : Cell)
    → IsRun p es → IsNextMoment (ends_in p es) t → IsScheduleAhead p (ends_in p es) t rank kept
    → GoesOnTo p (ends_in p es) t rs fs end → ArePunctualFrom p t (ends_in p es) fs → AreWithin p kept (ends_in p es) fs

-- in a run at whose end nothing goes on, each report is within the moments if it comes by the moment of what its own activity holds up
abbrev pub TheirOwnAreEnough : Type 0
TheirOwnAreEnough = (p : PlannedShop) (kept : Node → ℕ) (es fs : List Event) → IsWellShaped p → IsRun p es → IsRun p (es ++ fs) → IsIdle p (ends_in p (es ++ fs))
    → AreByTheirOwn p kept (ends_in p es) fs → AreWithin p kept (ends_in p es) fs
