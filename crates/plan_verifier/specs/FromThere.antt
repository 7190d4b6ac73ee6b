-- What holds of every run that goes on from a cell c and a present moment t, whatever run led to that cell.
use Rattle.std.specs.Prelude.{◌≡◌, ℕ, ◌<◌, ◌≤◌, ◌↔◌, ◌⊎◌, List, ◌++◌}
use Rattle.shop_base.specs.declared.node.Node.{Node}
use Rattle.shop_base.specs.declared.limits.TheConstants.{MAX_MOMENT}
use Rattle.shop_base.specs.declared.report.Report.{Report}
use Rattle.shop_base.specs.Plan.{PlannedShop, jobs}
use Rattle.shop_base.specs.Cell.{Cell, since, IsGone}
use Rattle.shop_base.specs.Run.{Event, IsRun, ends_in, IsAtRest, IsStuck}
use Rattle.shop_base.specs.Punctual.{ArePunctualFrom, AreNotEarly}
use Rattle.shop_base.specs.Ends.{HasEnded, IsInTime, IsOutByBudget, reports_in}
use Rattle.shop_base.specs.ReportsLeft.{reports_left}
use Rattle.shop_base.specs.Graph.{IsNode, leaving}
use Rattle.shop_base.specs.KeptMoments.{KeepsMoments, KeepsLeaving}
use Rattle.shop_base.specs.NeverStuckLaw.{CanGoOn, CanReportEach}
use Rattle.shop_base.specs.Ahead.{IsAhead, RespectArcs, MeetBudgetsAhead, MomentsFitAhead, GoesOnTo, MoveFrom}
use Rattle.shop_base.specs.Within.{AreWithin, AreByTheirOwn, AreMadeBy}
use Rattle.shop_base.specs.Deadlines.{AreDeadlines}
use Rattle.plan_verifier.specs.RestVerdicts.{IsAcceptableAhead}

module _ (p : PlannedShop) (c : Cell) (t : ℕ) where
  -- each controlled run that goes on is with the run before it a run, which ends at rest and not stuck; it has ended or can go on, each activity can be reported; and it has ended exactly where it has the reports that were left in c, and never has more
  abbrev pub IsNeverStuckFrom : Type 0
  IsNeverStuckFrom = (es : List Event) (rs : List Report) (fs : List Event) (end : Cell) → IsRun p es → ends_in p es ≡ c → GoesOnTo p c t rs fs end
      → IsRun p (es ++ fs) × (end ≡ ends_in p (es ++ fs)) × IsAtRest p end × (IsStuck p end → ⊥) × (HasEnded p end ⊎ CanGoOn p end) × CanReportEach p end
      × (reports_in fs ≤ reports_left p c) × (HasEnded p end ↔ (reports_in fs ≡ reports_left p c))

  -- whatever moments are kept that fit what is ahead: in each controlled run that goes on, while each report comes at or before the moment kept for each move that what goes on holds up, each move is made by the moment kept for it, and each job that isn't gone in c keeps to that of its leaving
  abbrev pub IsInTimeFrom : Type 0
  IsInTimeFrom = (kept : Node → ℕ) (es : List Event) (rs : List Report) (fs : List Event) (end : Cell) → MomentsFitAhead p c t kept
      → IsRun p es → ends_in p es ≡ c → GoesOnTo p c t rs fs end → AreWithin p kept c fs
      → AreMadeBy p kept c fs × ((j : ℕ) → j < jobs p → (IsGone p c j → ⊥) → KeepsLeaving p kept end j)

  -- in each controlled run that goes on, while nothing outlasts its due moment, and what was overdue at t ends at t, job j, once it is gone, is gone since at most moment n
  abbrev pub IsNeverGoneAfterFrom : ℕ → ℕ → Type 0
  IsNeverGoneAfterFrom j n = (es : List Event) (rs : List Report) (fs : List Event) (end : Cell) → IsRun p es → ends_in p es ≡ c → GoesOnTo p c t rs fs end
      → ArePunctualFrom p t c fs → IsGone p end j → since end j ≤ n

  -- in no run that goes on, by any controller, with no move before t and no report early, is job j gone before moment n
  abbrev pub IsNeverGoneBeforeFrom : ℕ → ℕ → Type 0
  IsNeverGoneBeforeFrom j n = (es fs : List Event) → IsRun p es → ends_in p es ≡ c → IsRun p (es ++ fs) → MoveFrom t fs → AreNotEarly p c fs
      → IsGone p (ends_in p (es ++ fs)) j → n ≤ since (ends_in p (es ++ fs)) j

  -- some controlled run that goes on, in which nothing is early or outlasts its due moment, but that what was overdue at t ends at t, has each job that isn't gone in c out at just the moment kept for its leaving, where that can be reported
  abbrev pub IsJustInTimeFrom : (Node → ℕ) → Type 0
  IsJustInTimeFrom kept = (es : List Event) → IsRun p es → ends_in p es ≡ c
      → (rs : List Report) × (fs : List Event) × (end : Cell) × GoesOnTo p c t rs fs end × ArePunctualFrom p t c fs × AreNotEarly p c fs × MoveFrom t fs
      × ((j : ℕ) → j < jobs p → (IsGone p c j → ⊥) → kept (leaving p j) ≤ MAX_MOMENT → IsGone p end j × (since end j ≡ kept (leaving p j)))

  -- in every run that goes on, by any controller, with no move before t and no report early, some job that isn't gone in c isn't out by its budget
  abbrev pub IsNeverInBudgetFrom : Type 0
  IsNeverInBudgetFrom = (es fs : List Event) → IsRun p es → ends_in p es ≡ c → IsRun p (es ++ fs) → MoveFrom t fs → AreNotEarly p c fs
      → (j : ℕ) × (j < jobs p) × (IsGone p c j → ⊥) × (IsOutByBudget p (ends_in p (es ++ fs)) j → ⊥)

  -- the deadlines of a rest whose earliest moments are these, and what runs come to that go on from there: the deadlines are the latest moments that respect the arcs ahead and meet the budgets, and none is before the earliest moment; while each report comes by those of all that goes on, each job that isn't gone in c is in time, and the rest is one to be accepted from its last moment on, with the same deadlines; and once the run has ended each is out by its budget, where each activity ended by its own
  pub record AreDeadlinesFrom (early kept : Node → ℕ) : Type 0 where
    pub deadlines : AreDeadlines p c kept
    pub latest : (other : Node → ℕ) (es : List Event) → IsRun p es → ends_in p es ≡ c → RespectArcs p c other → MeetBudgetsAhead p c other → (v : Node) → IsNode p v → IsAhead c v → other v ≤ kept v
    pub not_before : (es : List Event) (v : Node) → IsRun p es → ends_in p es ≡ c → IsNode p v → IsAhead c v → early v ≤ kept v
    pub in_time : (es : List Event) (rs : List Report) (fs : List Event) (end : Cell) → IsRun p es → ends_in p es ≡ c → GoesOnTo p c t rs fs end → AreWithin p kept c fs
        → (j : ℕ) → j < jobs p → (IsGone p c j → ⊥) → IsInTime p end j × (IsGone p end j → IsOutByBudget p end j)
    pub stays : (es : List Event) (rs : List Report) (fs : List Event) (end : Cell) → IsRun p es → ends_in p es ≡ c → GoesOnTo p c t rs fs end → AreWithin p kept c fs
        → AreDeadlines p end kept × IsAcceptableAhead p end end.last × ((moments : Node → ℕ) × KeepsMoments p moments end × MeetBudgetsAhead p end moments)
    pub out : (es : List Event) (rs : List Report) (fs : List Event) (end : Cell) → IsRun p es → ends_in p es ≡ c → GoesOnTo p c t rs fs end → AreByTheirOwn p kept c fs
        → HasEnded p end → (j : ℕ) → j < jobs p → (IsGone p c j → ⊥) → IsOutByBudget p end j

-- in no run that goes on from c, with any moments and by any controller, are all jobs out: some job that isn't gone in c is never gone
abbrev pub IsNeverDoneFrom : PlannedShop → Cell → Type 0
IsNeverDoneFrom p c = (es fs : List Event) → ends_in p es ≡ c → IsRun p (es ++ fs) → (j : ℕ) × (j < jobs p) × (IsGone p c j → ⊥) × (IsGone p (ends_in p (es ++ fs)) j → ⊥)
