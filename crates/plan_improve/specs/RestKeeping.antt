-- The rest of a run, while a plan is improved for it.
use Rattle.std.specs.Prelude.{ℕ, ◌<◌, ◌≤◌}
use Rattle.shop_base.specs.{Plan.PlannedShop, Plan.jobs, Cell.Cell, Cell.IsGone}
use Rattle.plan_improve.specs.{declared.improved.Improved.Improved, Settings.rest_from, Runs.Asked, Improved.IsVerdictOn, Keeping.Comes}

-- no job that isn't gone leaves later than this: a bound of a node, and a nominal time for each node of the largest shop
abbrev pub the_last_leaving : ℕ
the_last_leaving = 2020200000000

abbrev pub LeaveSoon : PlannedShop → Cell → (ℕ → ℕ) → Type 0
LeaveSoon p c leaves = (j : ℕ) → j < jobs p → (IsGone p c j → ⊥) → leaves j ≤ the_last_leaving

-- what is said of the plan that is found from cell c and the present moment t on
pub record IsImproved (c : Cell) (t : ℕ) (made : Asked) (start : PlannedShop) (found : Improved) : Type 0 where
  pub came : Comes (rest_from c t) made start found.shaped
  pub verdict : IsVerdictOn found.shaped c t found.verdict
