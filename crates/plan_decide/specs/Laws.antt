-- The laws of promises that exclude each other.
use Rattle.std.specs.Prelude.{◌≡◌, ℕ, ◌<◌, List, ◌++◌, Contains}
use Rattle.shop_base.specs.Plan.{PlannedShop, jobs}
use Rattle.shop_base.specs.Cell.{Cell, start, IsGone}
use Rattle.shop_base.specs.Run.{Event, IsRun, ends_in}
use Rattle.shop_base.specs.Punctual.{AreExact, AreNotEarly}
use Rattle.shop_base.specs.Ends.{IsGoneBy}
use Rattle.shop_base.specs.Ahead.{MoveFrom}
use Rattle.plan_seek.specs.Tasks.{PlanTask}
use Rattle.plan_decide.specs.Cases.{Case, nothing, run_to, IsPlanOf, budget_in}
use Rattle.plan_decide.specs.Excluding.{AreAllCyclic, AreExcluded}

-- a run at whose end all jobs are gone, and these by their budgets in t
pub record KeepsThemAll (t : Case) (js : List ℕ) (p : PlannedShop) (es : List Event) : Type 0 where
  pub gone : (j : ℕ) → j < jobs p → IsGone p (ends_in p es) j
  pub out : (j : ℕ) → Contains js j → IsGoneBy p (ends_in p es) j (budget_in t j)

-- the numbers of whole plans
abbrev pub whole : PlanTask → Case
whole t = record { task = t; past = nothing }

-- the numbers of plans that go on from a cell, to which a run of this plan has led, and a present moment
abbrev pub from_there : PlanTask → PlannedShop → Cell → ℕ → Case
from_there t base c present = record { task = t; past = run_to base c present }

-- where no plan is without a cycle, no run of any such plan has all jobs out, whatever its moments and whoever controls it
abbrev pub NoRunEndsWhereAllAreCyclic : Type 0
NoRunEndsWhereAllAreCyclic = (t : Case) (p : PlannedShop) (es : List Event) → AreAllCyclic t → IsPlanOf t p → IsRun p es → ((j : ℕ) → j < jobs p → IsGone p (ends_in p es) j) → ⊥

-- where promises exclude each other, no run of any such plan keeps them all whose reports are exact
abbrev pub NoExactRunKeepsThem : Type 0
NoExactRunKeepsThem = (t : PlanTask) (js : List ℕ) (p : PlannedShop) (es : List Event) → AreExcluded (whole t) js → IsPlanOf (whole t) p → IsRun p es → AreExact p (start p) es
    → KeepsThemAll (whole t) js p es → ⊥

-- where they do from a cell on, no run of any such plan that goes on from there, by any controller, keeps them all in which no move is before the present moment and no report since is early
abbrev pub NoContinuationKeepsThem : Type 0
NoContinuationKeepsThem = (t : PlanTask) (base : PlannedShop) (c : Cell) (present : ℕ) (js : List ℕ) (p : PlannedShop) (es fs : List Event)
    → AreExcluded (from_there t base c present) js → IsPlanOf (from_there t base c present) p → IsRun p es → ends_in p es ≡ c → IsRun p (es ++ fs) → MoveFrom present fs → AreNotEarly p c fs
    → KeepsThemAll (from_there t base c present) js p (es ++ fs) → ⊥
