-- The margin of a plan: by how many thousandths everything can be longer.
use Rattle.std.specs.Prelude.{◌≡◌, ℕ, ◌+◌, ◌<◌, ◌≤◌, Option, None, Some}
use Rattle.shop_base.specs.Plan.{PlannedShop}
use Rattle.plan_margin.specs.declared.margin.Margin.{Margin}
use Rattle.plan_margin.specs.declared.margin.TheConstants.{MAX_MARGIN}
use Rattle.plan_margin.specs.Longer.{AllKeepBudgets, IsPast, IsFirstPast}

-- the first job that doesn't keep its budget with one thousandth more than s; there is none at the greatest margin
abbrev pub IsNextPast : PlannedShop → ℕ → Option ℕ → Type 0
IsNextPast p s None = s ≡ MAX_MARGIN
IsNextPast p s (Some j) = (s < MAX_MARGIN) × IsFirstPast p (s + 1) j

-- the margin: with it and with less each job keeps its budget, and with more, up to the greatest margin, some job doesn't
pub record IsMargin (p : PlannedShop) (m : Margin) : Type 0 where
  pub most : m.thousandths ≤ MAX_MARGIN
  pub kept : (s : ℕ) → s ≤ m.thousandths → AllKeepBudgets p s
  pub past : (s : ℕ) → m.thousandths < s → s ≤ MAX_MARGIN → (j : ℕ) × IsPast p s j
  pub next : IsNextPast p m.thousandths m.then
