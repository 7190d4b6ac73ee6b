-- The greatest bound when one machine more was looked at.
use Rattle.std.proofs.Common.{◌≡◌, ℕ, ◌+◌, ◌<◌, ◌≤◌, inl, inr, Option, None, Some, MatchOption, arith, subst}
use Rattle.std.proofs.lemmas.Bool.{cases_eq}
use Rattle.plan_bounds.specs.Bounds.{ShopTimes, IsMachineBound, HasNoBound}
use Rattle.plan_bounds.specs.Greatest.{HaveNoBound, IsGreatestOfMachines}

module _ (t : ShopTimes) (m : ℕ) where
  -- a machine has one bound
  bound_once : (a b : ℕ) → IsMachineBound t m a → IsMachineBound t m b → a ≡ b
  bound_once a b one other = omega (arith, one.sum, other.sum, one.least.1 other.ends other.least.0, other.least.1 one.ends one.least.0)

  -- of a machine that was looked at, or of this one
  each : (P : ℕ → Type 0) (n : ℕ) → ((i b : ℕ) → i < m → IsMachineBound t i b → P b) → IsMachineBound t m n → P n
      → (i b : ℕ) → i < m + 1 → IsMachineBound t i b → P b
  each P n before bound here i b less is = elim (cases_eq i m) [
    | inl same ↦ subst P (bound_once n b bound (subst (λ k. IsMachineBound t k b) same is)) here
    | inr other ↦ before i b (omega (arith, less, other)) is
  ]

  pub first_bound : (n : ℕ) → HaveNoBound t m → IsMachineBound t m n → IsGreatestOfMachines t (m + 1) (m, n)
  first_bound n none bound = record {
    in_range = omega arith;
    bound = bound;
    before = λ i b less is. absurd (none i b less is);
    within = each (λ b. b ≤ n) n (λ i b less is. absurd (none i b less is)) bound (omega arith);
  }

  pub greater_bound : (found : ℕ × ℕ) (n : ℕ) → IsGreatestOfMachines t m found → IsMachineBound t m n → found.1 < n → IsGreatestOfMachines t (m + 1) (m, n)
  greater_bound found n greatest bound more = record {
    in_range = omega arith;
    bound = bound;
    before = λ i b less is. omega (arith, greatest.within i b less is, more);
    within = each (λ b. b ≤ n) n (λ i b less is. omega (arith, greatest.within i b less is, more)) bound (omega arith);
  }

  pub same_bound : (found : ℕ × ℕ) (n : ℕ) → IsGreatestOfMachines t m found → IsMachineBound t m n → n ≤ found.1 → IsGreatestOfMachines t (m + 1) found
  same_bound found n greatest bound few = record {
    in_range = omega (arith, greatest.in_range);
    bound = greatest.bound;
    before = greatest.before;
    within = each (λ b. b ≤ found.1) n greatest.within bound few;
  }

  -- a machine without a bound changes nothing
  pub no_bound : (found : Option (ℕ × ℕ)) → HasNoBound t m → MatchOption found (HaveNoBound t m) (IsGreatestOfMachines t m)
      → MatchOption found (HaveNoBound t (m + 1)) (IsGreatestOfMachines t (m + 1))
  no_bound None none before = λ i b less is. elim (cases_eq i m) [
    | inl same ↦ none _ (subst (λ k. IsMachineBound t k b) same is).least.0
    | inr other ↦ before i b (omega (arith, less, other)) is
  ]
  no_bound (Some found) none before = record {
    in_range = omega (arith, before.in_range);
    bound = before.bound;
    before = before.before;
    within = λ i b less is. elim (cases_eq i m) [
      | inl same ↦ absurd (none _ (subst (λ k. IsMachineBound t k b) same is).least.0)
      | inr other ↦ before.within i b (omega (arith, less, other)) is
    ];
  }
