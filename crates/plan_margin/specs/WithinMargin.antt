-- Runs in which nothing takes more than so many thousandths longer than stated.
use Rattle.std.specs.Prelude.{◌≡◌, ℕ, ◌+◌, ◌*◌, ◌<◌, ◌≤◌, List, Some}
use Rattle.shop_base.specs.declared.report.Report.{Report}
use Rattle.shop_base.specs.Plan.{PlannedShop, jobs, release, nominal, clean}
use Rattle.shop_base.specs.Cell.{Cell, start, since, cleaning, IsOn, IsGone}
use Rattle.shop_base.specs.Activity.{Activity, Arrival, Operation, Cleaning, GoesOn}
use Rattle.shop_base.specs.Report.{at}
use Rattle.shop_base.specs.Run.{Event}
use Rattle.shop_base.specs.Controlled.{IsControlledRun}
use Rattle.shop_base.specs.Punctual.{EachReport}
use Rattle.shop_base.specs.Ends.{HasEnded, IsInTime, IsOutByBudget}
use Rattle.plan_margin.specs.Longer.{longer}

module _ (p : PlannedShop) (s : ℕ) where
  -- by moment t the activity has lasted at most s thousandths longer than stated; a job has come by its release
  abbrev pub IsNoLonger : Cell → Activity → ℕ → Type 0
  IsNoLonger c (Arrival j) t = t ≤ release p j
  IsNoLonger c (Operation j m) t = (k : ℕ) → IsOn p c j k m → t * 1000 ≤ since c j * 1000 + longer s (nominal p j k)
  IsNoLonger c (Cleaning m) t = (from : ℕ) → cleaning c m ≡ Some from → t * 1000 ≤ from * 1000 + longer s (clean p m)

  -- so it is with all that goes on at the moment of the report, its own activity included
  abbrev pub IsWithinMargin : Cell → Report → Type 0
  IsWithinMargin c r = (a : Activity) (due : ℕ) → GoesOn p c a due → IsNoLonger c a (at r)

  -- each report among the events is so
  abbrev pub AreWithinMargin : Cell → List Event → Type 0
  AreWithinMargin = EachReport p IsWithinMargin

  -- in each controlled run whose reports are so, each job is in time, and out by its budget once it is gone
  abbrev pub IsInTimeWithin : Type 0
  IsInTimeWithin = (rs : List Report) (es : List Event) (end : Cell) → IsControlledRun p rs es end → AreWithinMargin (start p) es
      → (j : ℕ) → j < jobs p → IsInTime p end j × (IsGone p end j → IsOutByBudget p end j)

  -- so at the end of such a run each job is out by its budget
  abbrev pub IsInTimeAtTheEndWithin : Type 0
  IsInTimeAtTheEndWithin = (rs : List Report) (es : List Event) (end : Cell) → IsControlledRun p rs es end → AreWithinMargin (start p) es
      → HasEnded p end → (j : ℕ) → j < jobs p → IsOutByBudget p end j
