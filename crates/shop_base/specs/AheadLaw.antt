-- The laws of the rest of a run: es is any run that keeps the plan, by any controller, and t a present moment.
use Rattle.std.specs.Prelude.{◌≡◌, ℕ, ◌+◌, ◌<◌, ◌≤◌, ◌↔◌, ◌⊎◌, List, ◌++◌, length}
use Rattle.shop_base.specs.declared.node.Node.{Node}
use Rattle.shop_base.specs.declared.limits.TheConstants.{MAX_MOMENT}
use Rattle.shop_base.specs.declared.report.Report.{Report}
use Rattle.shop_base.specs.Plan.{PlannedShop, jobs, IsWellShaped}
use Rattle.shop_base.specs.Cell.{Cell, start, since, IsGone}
use Rattle.shop_base.specs.Report.{at, IsNextMoment, CanReport, after_report}
use Rattle.shop_base.specs.Run.{Event, IsRun, ends_in, IsAtRest, IsStuck}
use Rattle.shop_base.specs.Controlled.{AreMoves, after_moves, IsStep, IsControlledRun}
use Rattle.shop_base.specs.Punctual.{ArePunctualFrom, AreNotEarly}
use Rattle.shop_base.specs.Ends.{HasEnded, IsInTime, IsOutByBudget, reports_in}
use Rattle.shop_base.specs.ReportsLeft.{reports_left}
use Rattle.shop_base.specs.Graph.{Arc, leaving, IsSimpleCycle, RanksRise, MomentsFit, Path}
use Rattle.shop_base.specs.KeptMoments.{KeepsLeaving}
use Rattle.shop_base.specs.StepLaw.{AreOnce}
use Rattle.shop_base.specs.NeverStuckLaw.{CanGoOn, CanReportEach}
use Rattle.shop_base.specs.Ahead.{IsAhead, MeetBudgetsAhead, MomentsFitAhead, PathAhead, IsScheduleAhead, Settles, GoesOnTo, MoveFrom}

-- never stuck from there: where ranks rise along every arc, each controlled run that goes on is a run, which ends at rest and not stuck, it has ended or can go on, and each activity can be reported
abbrev pub NeverStuckFromThere : Type 0
NeverStuckFromThere = (p : PlannedShop) (rank : Node → ℕ) (es : List Event) (t : ℕ) (rs : List Report) (fs : List Event) (end : Cell)
    → IsWellShaped p → RanksRise p rank → IsRun p es → GoesOnTo p (ends_in p es) t rs fs end
    → IsRun p (es ++ fs) × (end ≡ ends_in p (es ++ fs)) × IsAtRest p end × (IsStuck p end → ⊥) × (HasEnded p end ⊎ CanGoOn p end) × CanReportEach p end

-- it ends after exactly the reports that were left
abbrev pub EndsOnTheReportsLeft : Type 0
EndsOnTheReportsLeft = (p : PlannedShop) (es : List Event) (t : ℕ) (rs : List Report) (fs : List Event) (end : Cell)
    → IsWellShaped p → IsRun p es → GoesOnTo p (ends_in p es) t rs fs end
    → (reports_in fs ≤ reports_left p (ends_in p es)) × (HasEnded p end ↔ (reports_in fs ≡ reports_left p (ends_in p es)))

-- in every run that goes on, by any controller, the reports made since and those still to come are together those that were left
abbrev pub ReportsLeftAddUp : Type 0
ReportsLeftAddUp = (p : PlannedShop) (es fs : List Event) → IsWellShaped p → IsRun p (es ++ fs)
    → reports_in fs + reports_left p (ends_in p (es ++ fs)) ≡ reports_left p (ends_in p es)

-- every cell settles, and in whatever order the jobs move, in the same cell
abbrev pub EveryCellSettlesOnce : Type 0
EveryCellSettlesOnce = (p : PlannedShop) (es : List Event) (t : ℕ) → IsWellShaped p → IsRun p es → IsNextMoment (ends_in p es) t
    → (js : List ℕ) × Settles p (ends_in p es) t js
    × ((others : List ℕ) → Settles p (ends_in p es) t others → after_moves p (ends_in p es) t others ≡ after_moves p (ends_in p es) t js)

-- no job moves twice while it settles, and so there are at most as many moves as jobs
abbrev pub NoJobSettlesTwice : Type 0
NoJobSettlesTwice = (p : PlannedShop) (es : List Event) (t : ℕ) (js : List ℕ) → IsWellShaped p → IsRun p es → Settles p (ends_in p es) t js
    → AreOnce js × (length js ≤ jobs p)

-- a step of a controlled run that is cut after some of its moves settles, at the moment of its report, by its other moves
abbrev pub ACutStepSettlesAsItWas : Type 0
ACutStepSettlesAsItWas = (p : PlannedShop) (c : Cell) (r : Report) (front js : List ℕ)
    → CanReport p c r → AreMoves p (after_report c r) (at r) front → Settles p (after_moves p (after_report c r) (at r) front) (at r) js
    → IsStep p c r (front ++ js)

-- every list of reports leads on from there
abbrev pub EveryListGoesOn : Type 0
EveryListGoesOn = (p : PlannedShop) (es : List Event) (t : ℕ) (rs : List Report) → IsWellShaped p → IsRun p es → IsNextMoment (ends_in p es) t
    → (fs : List Event) × (end : Cell) × GoesOnTo p (ends_in p es) t rs fs end

-- where ranks rise along every arc, some moments fit what is ahead of the end of any run
abbrev pub EveryCellHasASchedule : Type 0
EveryCellHasASchedule = (p : PlannedShop) (rank : Node → ℕ) (es : List Event) (t : ℕ) → IsWellShaped p → RanksRise p rank → IsRun p es
    → (kept : Node → ℕ) × MomentsFitAhead p (ends_in p es) t kept

-- in time from there: where what is ahead has a schedule, and the reports since are punctual, but that what was overdue ends at the present moment, each job keeps to the moment of its leaving; so where the moments ahead meet the budgets each job that wasn't gone is in time, and out by its budget once it is gone
abbrev pub InTimeFromThere : Type 0
InTimeFromThere = (p : PlannedShop) (rank kept : Node → ℕ) (es : List Event) (t : ℕ) (rs : List Report) (fs : List Event) (end : Cell)
    → IsRun p es → IsNextMoment (ends_in p es) t → IsScheduleAhead p (ends_in p es) t rank kept
    → GoesOnTo p (ends_in p es) t rs fs end → ArePunctualFrom p t (ends_in p es) fs
    → (j : ℕ) → j < jobs p → KeepsLeaving p kept end j
    × (MeetBudgetsAhead p (ends_in p es) kept → (IsGone p (ends_in p es) j → ⊥) → IsInTime p end j × (IsGone p end j → IsOutByBudget p end j))

-- no continuation is faster: where each report since comes when its own activity is due or later, and no move before the present moment, no job is gone before the length of any path ahead to its leaving
abbrev pub NoContinuationIsFaster : Type 0
NoContinuationIsFaster = (p : PlannedShop) (es : List Event) (t : ℕ) (j : ℕ) (nodes : List Node) (n : ℕ) (fs : List Event)
    → IsWellShaped p → IsRun p es → PathAhead p (ends_in p es) t nodes (leaving p j) n
    → IsRun p (es ++ fs) → MoveFrom t fs → AreNotEarly p (ends_in p es) fs
    → IsGone p (ends_in p (es ++ fs)) j → n ≤ since (ends_in p (es ++ fs)) j

-- just in time from there: where both hold, a job that is gone is gone since exactly the moment of its leaving, if a path ahead to its leaving is that long
abbrev pub JustInTimeFromThere : Type 0
JustInTimeFromThere = (p : PlannedShop) (rank kept : Node → ℕ) (es : List Event) (t : ℕ) (rs : List Report) (fs : List Event) (end : Cell)
    → IsRun p es → IsNextMoment (ends_in p es) t → IsScheduleAhead p (ends_in p es) t rank kept
    → GoesOnTo p (ends_in p es) t rs fs end → ArePunctualFrom p t (ends_in p es) fs → AreNotEarly p (ends_in p es) fs → MoveFrom t fs
    → (j : ℕ) (nodes : List Node) → PathAhead p (ends_in p es) t nodes (leaving p j) (kept (leaving p j)) → IsGone p end j
    → since end j ≡ kept (leaving p j)

-- and some controlled run is so: in it each job is gone whose leaving is kept in range
abbrev pub SomeContinuationIsExact : Type 0
SomeContinuationIsExact = (p : PlannedShop) (rank kept : Node → ℕ) (es : List Event) (t : ℕ)
    → IsRun p es → IsNextMoment (ends_in p es) t → IsScheduleAhead p (ends_in p es) t rank kept
    → (rs : List Report) × (fs : List Event) × (end : Cell) × GoesOnTo p (ends_in p es) t rs fs end
    × ArePunctualFrom p t (ends_in p es) fs × AreNotEarly p (ends_in p es) fs × MoveFrom t fs
    × ((j : ℕ) → j < jobs p → kept (leaving p j) ≤ MAX_MOMENT → IsGone p end j)

-- a cycle stops every run that goes on: some job that isn't gone there is never gone
abbrev pub ACycleStopsEveryContinuation : Type 0
ACycleStopsEveryContinuation = (p : PlannedShop) (nodes : List Node) (es fs : List Event) → IsWellShaped p → IsSimpleCycle p nodes → IsRun p (es ++ fs)
    → (j : ℕ) × (j < jobs p) × (IsGone p (ends_in p es) j → ⊥) × (IsGone p (ends_in p (es ++ fs)) j → ⊥)

-- no arc leads from a node ahead to one that is passed
abbrev pub NoArcLeadsBack : Type 0
NoArcLeadsBack = (p : PlannedShop) (es : List Event) (u v : Node) (d : ℕ) → IsWellShaped p → IsRun p es
    → Arc p u v d → IsAhead (ends_in p es) u → IsAhead (ends_in p es) v

-- what is ahead of the start from moment 0 on is the whole plan: the same moments fit, each path is one ahead and no path ahead is longer than all of them, and the same runs are controlled
pub record TheStartIsACase (p : PlannedShop) : Type 0 where
  pub moments : (kept : Node → ℕ) → MomentsFitAhead p (start p) 0 kept ↔ MomentsFit p kept
  pub path : (nodes : List Node) (v : Node) (n : ℕ) → Path p nodes v n → PathAhead p (start p) 0 nodes v n
  pub no_longer : (nodes : List Node) (v : Node) (n : ℕ) → PathAhead p (start p) 0 nodes v n → (others : List Node) × (m : ℕ) × (n ≤ m) × Path p others v m
  pub goes_on : (t : ℕ) (rs : List Report) (es : List Event) (end : Cell) → GoesOnTo p (start p) t rs es end ↔ IsControlledRun p rs es end

-- the start is a case of these laws, of every well-shaped plan
abbrev pub TheStartIsACaseOfThese : Type 0
TheStartIsACaseOfThese = (p : PlannedShop) → IsWellShaped p → TheStartIsACase p
