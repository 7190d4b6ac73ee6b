-- What has happened in the rest of a run.
use Rattle.std.specs.Prelude.{◌≡◌, ℕ}
use Rattle.shop_base.specs.Plan.{PlannedShop}
use Rattle.shop_base.specs.Cell.{Cell, start}
use Rattle.plan_seek.specs.Tasks.{task_in}
use Rattle.plan_decide.specs.Cases.{Past, nothing, run_to, Case}

-- the case of a plan's numbers and what has happened
abbrev pub case_of : PlannedShop → Past → Case
case_of p past = record { task = task_in p; past = past }

-- that of whole plans
abbrev pub whole_case : PlannedShop → Case
whole_case p = case_of p nothing

-- the run hasn't begun: its cell is the one at the start, and the present moment is 0
abbrev pub HasNotBegun : PlannedShop → Cell → ℕ → Type 0
HasNotBegun p c present = (c ≡ start p) × (present ≡ 0)

-- what has happened in the rest of a run of a plan, from a cell and a present moment on: nothing, where the run hasn't begun, and else the run to there
pub data IsPastOf (p : PlannedShop) (c : Cell) (present : ℕ) : Past → Type 0 where
  unbegun : HasNotBegun p c present → IsPastOf p c present nothing
  begun : (HasNotBegun p c present → ⊥) → IsPastOf p c present (run_to p c present)

-- it is so of what has happened there
pub record HoldsFrom (p : PlannedShop) (c : Cell) (present : ℕ) (holds : Case → Type 0) : Type 0 where
  pub past : Past
  pub is : IsPastOf p c present past
  pub says : holds (case_of p past)
