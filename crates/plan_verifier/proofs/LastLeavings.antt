-- The last of the leavings that were looked at.
use Rattle.std.proofs.Common.{◌≡◌, ℕ, ◌+◌, ◌<◌, ◌≤◌, ◌⊎◌, max, below_more, inl, inr, arith, Option}
use Rattle.std.specs.Prelude.{MatchOption}
use Rattle.std.proofs.lemmas.Bool.{cases_lt}
use Rattle.shop_base.specs.{Plan.PlannedShop, Cell.{Cell, IsGone}}

module _ (p : PlannedShop) (leaves : ℕ → ℕ) where
  -- the latest of the first n jobs' leavings, 0 where there is none
  pub record IsLatestBelow (n latest : ℕ) : Type 0 where
    pub none_later : (j : ℕ) → j < n → leaves j ≤ latest
    pub reached : (latest ≡ 0) ⊎ ((j : ℕ) × (j < n) × (leaves j ≡ latest))

  pub latest_more : (n m k : ℕ) → IsLatestBelow n m → k ≡ leaves n → IsLatestBelow (n + 1) (max m k)
  latest_more n m k below is = record {
    none_later = below_more (λ j. leaves j ≤ max m k) n (λ j lt. omega (arith, below.none_later j lt)) (omega (arith, is));
    reached = elim (cases_lt m k) [
      | inl less ↦ inr (n, omega arith, omega (arith, is))
      | inr more ↦ elim below.reached [
        | inl zero ↦ inl (omega arith)
        | inr (j, lt, at) ↦ inr (j, omega arith, omega (arith, at))
      ]
    ];
  }

  module _ (c : Cell) where
    -- the first of the first n jobs that leaves last of those that aren't gone, none where all of them are gone
    pub record IsLastOf (n j : ℕ) : Type 0 where
      pub job : j < n
      pub here : IsGone p c j → ⊥
      pub last : (i : ℕ) → i < n → (IsGone p c i → ⊥) → leaves i ≤ leaves j
      pub first : (i : ℕ) → i < j → (IsGone p c i → ⊥) → leaves i < leaves j

    abbrev pub IsLastBelow : ℕ → Option ℕ → Type 0
    IsLastBelow n last = MatchOption last ((i : ℕ) → i < n → IsGone p c i) (IsLastOf n)
