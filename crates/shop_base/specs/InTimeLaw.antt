-- The laws of punctual runs: every job is in time.
use Rattle.std.specs.Prelude.{ℕ, ◌<◌, List}
use Rattle.shop_base.specs.declared.node.Node.{Node}
use Rattle.shop_base.specs.declared.report.Report.{Report}
use Rattle.shop_base.specs.Plan.{PlannedShop, jobs}
use Rattle.shop_base.specs.Cell.{Cell, start, IsGone}
use Rattle.shop_base.specs.Run.{Event}
use Rattle.shop_base.specs.Controlled.{IsControlledRun}
use Rattle.shop_base.specs.Punctual.{ArePunctual}
use Rattle.shop_base.specs.Ends.{HasEnded, IsInTime, IsOutByBudget}
use Rattle.shop_base.specs.Graph.{IsSchedule, MeetBudgets}
use Rattle.shop_base.specs.KeptMoments.{KeepsLeaving}

-- in time: where a plan has a schedule, and all reports of a controlled run are punctual, each job keeps to the moment of its leaving; so where these moments meet the budgets each job is in time, and out by its budget once it is gone
abbrev pub InTime : Type 0
InTime = (p : PlannedShop) (rank kept : Node → ℕ) (rs : List Report) (es : List Event) (end : Cell)
    → IsSchedule p rank kept → IsControlledRun p rs es end → ArePunctual p (start p) es
    → (j : ℕ) → j < jobs p → KeepsLeaving p kept end j × (MeetBudgets p kept → IsInTime p end j × (IsGone p end j → IsOutByBudget p end j))

-- where such a run has ended, each job is out by its budget
abbrev pub InTimeAtTheEnd : Type 0
InTimeAtTheEnd = (p : PlannedShop) (rank kept : Node → ℕ) (rs : List Report) (es : List Event) (end : Cell)
    → IsSchedule p rank kept → MeetBudgets p kept → IsControlledRun p rs es end → ArePunctual p (start p) es → HasEnded p end
    → (j : ℕ) → j < jobs p → IsOutByBudget p end j
