-- Of which plans is asked: of whole plans with given numbers, or of those that go on with a run from a present moment on.
use Rattle.std.specs.Prelude.{◌≡◌, ℕ, ◌<◌, ◌≤◌, ◌⊎◌, Bool, true, nat_le, List, length, slice_index, slice_set}
use Rattle.shop_base.specs.declared.node.Node.{Node}
use Rattle.shop_base.specs.Plan.{PlannedShop, jobs, IsWellShaped}
use Rattle.shop_base.specs.Cell.{Cell, job_in, made, since, IsGone}
use Rattle.shop_base.specs.Movers.{due_of_job}
use Rattle.shop_base.specs.Graph.{leaving}
use Rattle.shop_base.specs.Ahead.{PathAhead}
use Rattle.plan_verifier.specs.Accepted.{IsGreatest, IsMakespan, IsAcceptable}
use Rattle.plan_verifier.specs.Held.{later_than}
use Rattle.plan_verifier.specs.Rest.{IsGreatestAhead}
use Rattle.plan_verifier.specs.RestVerdicts.{IsAcceptableAhead}
use Rattle.plan_bounds.specs.Bounds.{ShopTimes, times_of, route_in, out_alone, job_bound}
use Rattle.plan_limits.specs.Stages.{bare}
use Rattle.plan_limits.specs.Limits.{IsOutBy}
use Rattle.plan_seek.specs.Tasks.{PlanTask}
use Rattle.cell_tables.specs.Kept.{KeepsSoFar}
use Rattle.plan_decide.specs.declared.aim.Objective.{Objective}
use Rattle.plan_decide.specs.declared.aim.Objective.TheVariants.{Makespan, Leaving}

-- what has happened: nothing, or a run of a plan, which has led to a cell; and then the present moment
pub data Past : Type 0 where
  nothing : Past
  run_to : (plan : PlannedShop) (cell : Cell) (present : ℕ) → Past

-- the numbers of plans, and what has happened
pub record Case : Type 0 where
  pub task : PlanTask
  pub past : Past

-- the makespan of a rest: no job that is gone left later than n, no path ahead to a leaving is longer, and one job left then, or a path ahead to its leaving is as long
pub record IsMakespanAhead (p : PlannedShop) (c : Cell) (present n : ℕ) : Type 0 where
  pub left : (j : ℕ) → j < jobs p → IsGone p c j → since c j ≤ n
  pub bound : (j : ℕ) (nodes : List Node) (k : ℕ) → j < jobs p → PathAhead p c present nodes (leaving p j) k → k ≤ n
  pub reached : (j : ℕ) × (j < jobs p) × ((IsGone p c j × (since c j ≡ n)) ⊎ ((nodes : List Node) × PathAhead p c present nodes (leaving p j) n))

-- the leaving of job j: where it is gone, the moment at which it left, and else the greatest length of a path ahead to its leaving
pub record IsLeavingAhead (p : PlannedShop) (c : Cell) (present j n : ℕ) : Type 0 where
  pub left : IsGone p c j → n ≡ since c j
  pub ahead : (IsGone p c j → ⊥) → IsGreatestAhead p c present (leaving p j) n

-- what has happened keeps the plan: all that was done in the cell does, so the run is one of that plan too
abbrev pub KeepsPast : Past → PlannedShop → Type 0
KeepsPast nothing p = Unit {0}
KeepsPast (run_to base c present) p = KeepsSoFar base c p

-- no path to the leaving of job j is longer than n: no path ahead, where something has happened
abbrev pub IsOutWithin : Past → PlannedShop → ℕ → ℕ → Type 0
IsOutWithin nothing p j n = IsOutBy p j n
IsOutWithin (run_to base c present) p j n = (nodes : List Node) (k : ℕ) → PathAhead p c present nodes (leaving p j) k → k ≤ n

-- the plan is to be accepted: the whole of it, or the rest
abbrev pub IsGood : Past → PlannedShop → Type 0
IsGood nothing p = IsAcceptable p
IsGood (run_to base c present) p = IsAcceptableAhead p c present

-- n is the plan's makespan, or the earliest leaving of the job: the greatest length of a path to it; or those of the rest
abbrev pub HasValue : Past → Objective → PlannedShop → ℕ → Type 0
HasValue nothing Makespan p n = IsMakespan p n
HasValue nothing (Leaving j) p n = IsGreatest p (leaving p j) n
HasValue (run_to base c present) Makespan p n = IsMakespanAhead p c present n
HasValue (run_to base c present) (Leaving j) p n = IsLeavingAhead p c present j n

-- whether job j isn't gone
abbrev pub is_waiting : ShopTimes → Past → ℕ → Bool
is_waiting t nothing j = true
is_waiting t (run_to base c present) j = nat_le (made c j) (length (route_in t j))

-- job j's bound, the least moment at which it can leave alone: from the start; or, where something has happened, where it is ready for its next move at the present moment, or at that at which what goes on with it is due, if that is later
abbrev pub bound_in : ShopTimes → Past → ℕ → ℕ
bound_in t nothing j = job_bound t j
bound_in t (run_to base c present) j = out_alone t j (made c j) (later_than present (due_of_job (bare t) j (job_in c j)))

module _ (t : Case) where
  -- the number of jobs
  abbrev pub case_jobs : ℕ
  case_jobs = length t.task.shop.routes

  -- the budget of job j
  abbrev pub budget_in : ℕ → ℕ
  budget_in j = slice_index t.task.budget j

  -- the shop, the releases and the cleaning times, without the budgets
  abbrev pub times_in : ShopTimes
  times_in = record { shop = t.task.shop; release = t.task.release; clean = t.task.clean }

  -- the same case with these budgets
  abbrev pub with_budgets : List ℕ → Case
  with_budgets budget = record { task = record { shop = t.task.shop; release = t.task.release; budget = budget; clean = t.task.clean }; past = t.past }

  -- with budget n for job j
  abbrev pub with_budget : ℕ → ℕ → Case
  with_budget j n = with_budgets (slice_set t.task.budget j n)

-- a plan of the same shop with the same releases and cleaning times, which are given or left out alike, whatever its orders and budgets, that what has happened keeps
pub record IsPlanOf (t : Case) (p : PlannedShop) : Type 0 where
  pub shaped : IsWellShaped p
  pub same : times_of p ≡ times_in t
  pub keeps : KeepsPast t.past p

-- the plan is accepted: it is well shaped, what has happened keeps it, and it is to be accepted
pub record IsAcceptedFromPast (past : Past) (p : PlannedShop) : Type 0 where
  pub shaped : IsWellShaped p
  pub keeps : KeepsPast past p
  pub acceptable : IsGood past p
