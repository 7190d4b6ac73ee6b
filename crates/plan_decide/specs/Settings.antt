-- The setting of a question: the rest of a run, and whose promises are asked for.
use Rattle.std.specs.Prelude.{◌≡◌, ℕ, ◌<◌, Bool, true, false, ◌↔◌, IsTrue, List, slice_set, Option, None, Some}
use Rattle.shop_base.specs.declared.limits.TheConstants.{MAX_MOMENT}
use Rattle.shop_base.specs.Plan.{PlannedShop, jobs, IsWellShaped}
use Rattle.shop_base.specs.Cell.{Cell, job_in, made, ready}
use Rattle.shop_base.specs.Movers.{due_of_job}
use Rattle.shop_base.specs.Report.{IsNextMoment}
use Rattle.cell_tables.specs.{Kept.KeepsSoFar, Rests.IsReached}
use Rattle.alt_graph.specs.Times.{NodeTimes}
use Rattle.plan_verifier.specs.RestVerdicts.{IsAcceptableAhead}
use Rattle.plan_verifier.specs.Held.{later_than}
use Rattle.plan_verifier.specs.Rest.{AreOrderedAhead}
use Rattle.plan_bounds.specs.Bounds.{times_of, out_alone}
use Rattle.plan_decide.specs.declared.aim.Aim.{Aim}
use Rattle.plan_decide.specs.declared.aim.Aim.TheVariants.{Promises, Least}
use Rattle.plan_decide.specs.declared.aim.Objective.TheVariants.{Makespan, Leaving}
use Rattle.plan_decide.specs.declared.kept.Kept.{Kept}
use Rattle.plan_decide.specs.declared.kept.Kept.TheVariants.{Whole, Rest}
use Rattle.plan_decide.specs.Cases.{Past, nothing, run_to, Case, IsAcceptedFromPast, with_budgets}
use Rattle.plan_decide.specs.Pasts.{case_of, HasNotBegun}

-- the rest of a run of a plan, from a cell and a present moment on, whether that is a whole plan, and the job whose own promise isn't asked for
pub record AskedRest : Type 0 where
  pub plan : PlannedShop
  pub cell : Cell
  pub present : ℕ
  pub is_whole : Bool
  pub free : Option ℕ

abbrev pub asked_rest : PlannedShop → Cell → ℕ → Bool → Option ℕ → AskedRest
asked_rest p c present is_whole free = record { plan = p; cell = c; present = present; is_whole = is_whole; free = free }

-- what has happened, where that is a whole plan, or a run to the cell
abbrev pub past_by : Bool → PlannedShop → Cell → ℕ → Past
past_by true p c present = nothing
past_by false p c present = run_to p c present

abbrev pub past_in : AskedRest → Past
past_in s = past_by s.is_whole s.plan s.cell s.present

-- the job whose own promise isn't asked for
abbrev pub free_in : Aim → Option ℕ
free_in Promises = None
free_in (Least Makespan) = None
free_in (Least (Leaving j)) = Some j

-- the budgets that are asked for
abbrev pub freed : Option ℕ → List ℕ → List ℕ
freed None budget = budget
freed (Some j) budget = slice_set budget j MAX_MOMENT

-- the case of a setting
abbrev pub case_in : AskedRest → Case
case_in s = with_budgets (case_of s.plan (past_in s)) (freed s.free s.plan.plan.budget)

-- a run of the plan leads to the cell, and it is a whole plan just where that hasn't begun
pub record IsSet (s : AskedRest) : Type 0 where
  pub shaped : IsWellShaped s.plan
  pub reached : IsReached s.plan s.cell
  pub moment : IsNextMoment s.cell s.present
  pub whole : IsTrue s.is_whole ↔ HasNotBegun s.plan s.cell s.present

-- nothing was reported of any job
abbrev pub AreAwaited : PlannedShop → Cell → Type 0
AreAwaited p c = (j : ℕ) → j < jobs p → (made c j ≡ 0) × (ready c j ≡ false)

-- the plan that is kept
abbrev pub plan_of : Kept → PlannedShop
plan_of (Whole verified) = verified.planned
plan_of (Rest shaped times) = shaped

-- it is kept with the moments of its nodes: as a whole, or those ahead
abbrev pub FitsPast : Past → Kept → Type 0
FitsPast nothing (Whole verified) = Unit {0}
FitsPast nothing (Rest shaped times) = ⊥
FitsPast (run_to base c present) (Whole verified) = ⊥
FitsPast (run_to base c present) (Rest shaped times) = AreOrderedAhead shaped c present times

-- the bound of a job that isn't gone
abbrev pub bound_ahead : PlannedShop → Cell → ℕ → ℕ → ℕ
bound_ahead p c present j = out_alone (times_of p) j (made c j) (later_than present (due_of_job p j (job_in c j)))

-- this plan is accepted, and kept
pub record IsKeptAs (past : Past) (p : PlannedShop) (kept : Kept) : Type 0 where
  pub plan : plan_of kept ≡ p
  pub accepted : IsAcceptedFromPast past p
  pub fits : FitsPast past kept

-- what has happened keeps the plan too, what is left by it is accepted, and these are the moments of its nodes
pub record AreTimesAhead (base : PlannedShop) (c : Cell) (present : ℕ) (p : PlannedShop) (times : NodeTimes) : Type 0 where
  pub keeps : KeepsSoFar base c p
  pub acceptable : IsAcceptableAhead p c present
  pub ordered : AreOrderedAhead p c present times
