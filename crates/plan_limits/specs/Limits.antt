-- When a plan has jobs out by limits, and when no plan does, whatever its orders.
use Rattle.std.specs.Prelude.{◌≡◌, ℕ, ◌<◌, ◌≤◌, List, Option, None, Some, slice_index_or}
use Rattle.shop_base.specs.declared.node.Node.{Node}
use Rattle.shop_base.specs.Plan.{PlannedShop, jobs, IsWellShaped}
use Rattle.shop_base.specs.Cell.{IsGone}
use Rattle.shop_base.specs.Graph.{leaving, Path}
use Rattle.shop_base.specs.Ahead.{PathAhead}
use Rattle.plan_verifier.specs.Accepted.{HasNoCycle}
use Rattle.plan_bounds.specs.Bounds.{ShopTimes, times_of}
use Rattle.plan_limits.specs.Stages.{Stage, GoesOnFrom}

-- the limit of job j; a job without one isn't asked for
abbrev pub limit_of : List (Option ℕ) → ℕ → Option ℕ
limit_of limits j = slice_index_or limits j None

-- no path to the leaving of job j is longer than n
abbrev pub IsOutBy : PlannedShop → ℕ → ℕ → Type 0
IsOutBy p j n = (nodes : List Node) (k : ℕ) → Path p nodes (leaving p j) k → k ≤ n

-- the plan's graph has no cycle, and no path to the leaving of a job is longer than the limit that the job has
pub record KeepsLimits (p : PlannedShop) (limits : List (Option ℕ)) : Type 0 where
  pub acyclic : HasNoCycle p
  pub jobs : (j n : ℕ) → j < jobs p → limit_of limits j ≡ Some n → IsOutBy p j n

-- no well-shaped plan of this shop with these releases and cleaning times keeps the limits, whatever its orders and budgets
abbrev pub NoPlanKeeps : ShopTimes → List (Option ℕ) → Type 0
NoPlanKeeps t limits = (p : PlannedShop) → IsWellShaped p → times_of p ≡ t → KeepsLimits p limits → ⊥

module _ (s : Stage) where
  -- no path ahead to the leaving of job j is longer than n
  abbrev pub IsOutByFrom : PlannedShop → ℕ → ℕ → Type 0
  IsOutByFrom p j n = (nodes : List Node) (k : ℕ) → PathAhead p s.cell s.present nodes (leaving p j) k → k ≤ n

  -- the plan's graph has no cycle, and of the jobs that aren't gone no path ahead to the leaving of one is longer than the limit that it has
  pub record KeepsLimitsFrom (p : PlannedShop) (limits : List (Option ℕ)) : Type 0 where
    pub acyclic : HasNoCycle p
    pub jobs : (j n : ℕ) → j < jobs p → (IsGone p s.cell j → ⊥) → limit_of limits j ≡ Some n → IsOutByFrom p j n

  -- no plan that goes on from there does
  abbrev pub NoPlanKeepsFrom : List (Option ℕ) → Type 0
  NoPlanKeepsFrom limits = (p : PlannedShop) → GoesOnFrom s p → KeepsLimitsFrom p limits → ⊥
