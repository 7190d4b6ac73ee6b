-- The laws of deadlines: es is any run that keeps the plan, by any controller, and t a present moment.
use Rattle.std.specs.Prelude.{◌≡◌, ℕ, ◌<◌, ◌≤◌, List, ◌∷◌, ◌++◌}
use Rattle.shop_base.specs.declared.node.Node.{Node}
use Rattle.shop_base.specs.declared.report.Report.{Report}
use Rattle.shop_base.specs.Plan.{PlannedShop, jobs, IsWellShaped}
use Rattle.shop_base.specs.Cell.{Cell, start, IsGone}
use Rattle.shop_base.specs.Activity.{Activity, GoesOn}
use Rattle.shop_base.specs.Report.{report_of, IsNextMoment, after_end}
use Rattle.shop_base.specs.Run.{Event, Reported, IsRun, ends_in}
use Rattle.shop_base.specs.Controlled.{IsControlledRun}
use Rattle.shop_base.specs.Punctual.{AreNotEarly}
use Rattle.shop_base.specs.Ends.{HasEnded, IsInTime, IsOutByBudget}
use Rattle.shop_base.specs.Graph.{IsNode, RanksRise, IsSchedule, MeetBudgets}
use Rattle.shop_base.specs.KeptMoments.{KeepsMoments}
use Rattle.shop_base.specs.Ahead.{IsAhead, HoldsUp, RespectArcs, MeetBudgetsAhead, IsScheduleAhead, GoesOnTo, MoveFrom}
use Rattle.shop_base.specs.Within.{AreWithin, AreByTheirOwn, AreMadeBy}
use Rattle.shop_base.specs.Deadlines.{AreDeadlines}

-- out by the deadlines: in each controlled run of a plan with a schedule that meets the budgets, where each report comes by the deadline of what its own activity holds up, and the run has ended, each job is out by its budget, however long anything took
abbrev pub OutByTheDeadlines : Type 0
OutByTheDeadlines = (p : PlannedShop) (rank early kept : Node → ℕ) (rs : List Report) (es : List Event) (end : Cell)
    → IsSchedule p rank early → MeetBudgets p early → AreDeadlines p (start p) kept → IsControlledRun p rs es end
    → AreByTheirOwn p kept (start p) es → HasEnded p end → (j : ℕ) → j < jobs p → IsOutByBudget p end j

-- and before it has ended, where each report comes by the deadlines of all that went on then, each job is in time, and out by its budget once it is gone
abbrev pub InTimeToTheDeadlines : Type 0
InTimeToTheDeadlines = (p : PlannedShop) (rank early kept : Node → ℕ) (rs : List Report) (es : List Event) (end : Cell)
    → IsSchedule p rank early → MeetBudgets p early → AreDeadlines p (start p) kept → IsControlledRun p rs es end
    → AreWithin p kept (start p) es → (j : ℕ) → j < jobs p → IsInTime p end j × (IsGone p end j → IsOutByBudget p end j)

-- such a plan has deadlines, and none is before the moment of its node in the schedule
abbrev pub EachSuchPlanHasDeadlines : Type 0
EachSuchPlanHasDeadlines = (p : PlannedShop) (rank early : Node → ℕ) → IsSchedule p rank early → MeetBudgets p early
    → (kept : Node → ℕ) × AreDeadlines p (start p) kept × ((v : Node) → IsNode p v → early v ≤ kept v)

-- where any moments respect the arcs ahead and meet the budgets, there are deadlines
abbrev pub DeadlinesExist : Type 0
DeadlinesExist = (p : PlannedShop) (rank other : Node → ℕ) (es : List Event) → IsWellShaped p → RanksRise p rank → IsRun p es
    → RespectArcs p (ends_in p es) other → MeetBudgetsAhead p (ends_in p es) other → (kept : Node → ℕ) × AreDeadlines p (ends_in p es) kept

-- the deadlines are the latest: other moments that respect the arcs ahead and meet the budgets are at most these, node by node
abbrev pub DeadlinesAreTheLatest : Type 0
DeadlinesAreTheLatest = (p : PlannedShop) (rank kept other : Node → ℕ) (es : List Event) → IsWellShaped p → RanksRise p rank → IsRun p es
    → AreDeadlines p (ends_in p es) kept → RespectArcs p (ends_in p es) other → MeetBudgetsAhead p (ends_in p es) other
    → (v : Node) → IsNode p v → IsAhead (ends_in p es) v → other v ≤ kept v

-- a node's deadline is the same in every rest that has it ahead, whatever the runs before
abbrev pub DeadlinesAreTheSame : Type 0
DeadlinesAreTheSame = (p : PlannedShop) (rank kept other : Node → ℕ) (es fs : List Event) → IsWellShaped p → RanksRise p rank → IsRun p es → IsRun p fs
    → AreDeadlines p (ends_in p es) kept → AreDeadlines p (ends_in p fs) other
    → (v : Node) → IsNode p v → IsAhead (ends_in p es) v → IsAhead (ends_in p fs) v → kept v ≡ other v

-- and deadlines stay deadlines as a run goes on, by any controller
abbrev pub DeadlinesStay : Type 0
DeadlinesStay = (p : PlannedShop) (kept : Node → ℕ) (es fs : List Event) → IsWellShaped p → IsRun p es → IsRun p (es ++ fs)
    → AreDeadlines p (ends_in p es) kept → AreDeadlines p (ends_in p (es ++ fs)) kept

-- where moments that fit what is ahead meet the budgets, as the earliest do if any do, they are at most the deadlines
abbrev pub NoDeadlineIsTooEarly : Type 0
NoDeadlineIsTooEarly = (p : PlannedShop) (rank early kept : Node → ℕ) (es : List Event) (t : ℕ) → IsRun p es
    → IsScheduleAhead p (ends_in p es) t rank early → MeetBudgetsAhead p (ends_in p es) early → AreDeadlines p (ends_in p es) kept
    → (v : Node) → IsNode p v → IsAhead (ends_in p es) v → early v ≤ kept v

-- so, while each report comes within the deadlines, each job that wasn't gone is in time, and out by its budget once it is gone
abbrev pub InTimeByDeadlines : Type 0
InTimeByDeadlines = (p : PlannedShop) (rank early kept : Node → ℕ) (es : List Event) (t : ℕ) (rs : List Report) (fs : List Event) (end : Cell)
    → IsRun p es → IsNextMoment (ends_in p es) t
    → IsScheduleAhead p (ends_in p es) t rank early → MeetBudgetsAhead p (ends_in p es) early → AreDeadlines p (ends_in p es) kept
    → GoesOnTo p (ends_in p es) t rs fs end → AreWithin p kept (ends_in p es) fs
    → (j : ℕ) → j < jobs p → (IsGone p (ends_in p es) j → ⊥) → IsInTime p end j × (IsGone p end j → IsOutByBudget p end j)

-- each move is made at or before its deadline
abbrev pub EachMoveIsByItsDeadline : Type 0
EachMoveIsByItsDeadline = (p : PlannedShop) (rank early kept : Node → ℕ) (es : List Event) (t : ℕ) (rs : List Report) (fs : List Event) (end : Cell)
    → IsRun p es → IsNextMoment (ends_in p es) t
    → IsScheduleAhead p (ends_in p es) t rank early → MeetBudgetsAhead p (ends_in p es) early → AreDeadlines p (ends_in p es) kept
    → GoesOnTo p (ends_in p es) t rs fs end → AreWithin p kept (ends_in p es) fs → AreMadeBy p kept (ends_in p es) fs

-- and the rest stays accepted: some moments fit what is ahead then, and meet the budgets
abbrev pub TheRestStaysAccepted : Type 0
TheRestStaysAccepted = (p : PlannedShop) (rank early kept : Node → ℕ) (es : List Event) (t : ℕ) (rs : List Report) (fs : List Event) (end : Cell)
    → IsRun p es → IsNextMoment (ends_in p es) t
    → IsScheduleAhead p (ends_in p es) t rank early → MeetBudgetsAhead p (ends_in p es) early → AreDeadlines p (ends_in p es) kept
    → GoesOnTo p (ends_in p es) t rs fs end → AreWithin p kept (ends_in p es) fs
    → (moments : Node → ℕ) × KeepsMoments p moments end × MeetBudgetsAhead p end moments

-- where each activity ends by its own deadline, and the run has ended, each job that wasn't gone is out by its budget
abbrev pub AllOutByDeadlines : Type 0
AllOutByDeadlines = (p : PlannedShop) (rank early kept : Node → ℕ) (es : List Event) (t : ℕ) (rs : List Report) (fs : List Event) (end : Cell)
    → IsRun p es → IsNextMoment (ends_in p es) t
    → IsScheduleAhead p (ends_in p es) t rank early → MeetBudgetsAhead p (ends_in p es) early → AreDeadlines p (ends_in p es) kept
    → GoesOnTo p (ends_in p es) t rs fs end → AreByTheirOwn p kept (ends_in p es) fs → HasEnded p end
    → (j : ℕ) → j < jobs p → (IsGone p (ends_in p es) j → ⊥) → IsOutByBudget p end j

-- job j isn't out by its budget in any run that goes on from es with no move before moment t and no report early, by any controller
abbrev pub IsLateFrom : PlannedShop → List Event → ℕ → ℕ → Type 0
IsLateFrom p es t j = (fs : List Event) → IsRun p (es ++ fs) → MoveFrom t fs → AreNotEarly p (ends_in p es) fs → IsOutByBudget p (ends_in p (es ++ fs)) j → ⊥

-- the deadlines are tight: of each node ahead some job that isn't gone is late, where no move is made before a moment past its deadline
abbrev pub DeadlinesAreTight : Type 0
DeadlinesAreTight = (p : PlannedShop) (rank kept : Node → ℕ) (es : List Event) (v : Node)
    → IsWellShaped p → RanksRise p rank → IsRun p es → AreDeadlines p (ends_in p es) kept → IsNode p v → IsAhead (ends_in p es) v
    → (j : ℕ) × (j < jobs p) × (IsGone p (ends_in p es) j → ⊥) × ((t : ℕ) → kept v < t → IsLateFrom p es t j)

-- so it is where an activity is reported later than the deadline of what it holds up, early or not, and no report behind it is early
abbrev pub ALateEndIsTooLate : Type 0
ALateEndIsTooLate = (p : PlannedShop) (rank kept : Node → ℕ) (es : List Event) (a : Activity) (due : ℕ) (v : Node)
    → IsWellShaped p → RanksRise p rank → IsRun p es → AreDeadlines p (ends_in p es) kept → GoesOn p (ends_in p es) a due → HoldsUp p (ends_in p es) a v
    → (j : ℕ) × (j < jobs p) × (IsGone p (ends_in p es) j → ⊥)
    × ((t : ℕ) (fs : List Event) → kept v < t → IsRun p (es ++ Reported (report_of a t) ∷ fs) → AreNotEarly p (after_end (ends_in p es) a t) fs
    → IsOutByBudget p (ends_in p (es ++ Reported (report_of a t) ∷ fs)) j → ⊥)
