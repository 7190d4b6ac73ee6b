-- Counts of the numbers below one that pass a test.
use Rattle.std.proofs.Common.{◌≡◌, ℕ, zero, suc, ◌+◌, ◌<◌, ◌≤◌, Bool, true, false, cond, ap, sym, refl, arith, inl, inr, ◌⊎◌}
use Rattle.std.proofs.lemmas.Bool.{cases_eq, cases_lt, cases_order}
use Rattle.shop_base.specs.Plan.{count_below}

module _ (f : ℕ → Bool) where
  -- a count never falls
  pub count_grows : (a b : ℕ) → a ≤ b → count_below f a ≤ count_below f b
  count_grows a zero below = let same : a ≡ 0 = omega arith in omega (arith, ap (count_below f) same)
  count_grows a (suc b) below = elim (cases_eq a (suc b)) [
    | inl same ↦ omega (arith, ap (count_below f) same)
    | inr other ↦ omega (arith, count_grows a b (omega arith))
  ]

  -- a number that passes counts
  pub count_passed : (a : ℕ) → f a ≡ true → count_below f (suc a) ≡ count_below f a + 1
  count_passed a passed = let one : cond (f a) 1 0 ≡ 1 = ap {B = ℕ} (λ (x : Bool). cond x 1 0) passed in omega (arith, one)

  pub count_failed : (a : ℕ) → f a ≡ false → count_below f (suc a) ≡ count_below f a
  count_failed a failed = let none : cond (f a) 1 0 ≡ 0 = ap {B = ℕ} (λ (x : Bool). cond x 1 0) failed in omega (arith, none)

  -- and so the count rises behind it
  pub count_rises : (a b : ℕ) → f a ≡ true → a < b → count_below f a < count_below f b
  count_rises a b passed less = omega (arith, count_passed a passed, count_grows (suc a) b less)

  -- of a lower count is the lower number
  pub count_less : (a b : ℕ) → count_below f a < count_below f b → a < b
  count_less a b less = elim (cases_lt a b) [
    | inl is ↦ is
    | inr past ↦ absurd (omega (arith, count_grows b a past))
  ]

  -- numbers that pass are told apart by their counts
  pub count_apart : (a b : ℕ) → f a ≡ true → f b ≡ true → count_below f a ≡ count_below f b → a ≡ b
  count_apart a b one other same = go (cases_order a b)
    where
      go : (a ≡ b) ⊎ ((a < b) ⊎ (b < a)) → a ≡ b
      go (inl is) = is
      go (inr (inl less)) = absurd (omega (arith, count_rises a b one less))
      go (inr (inr more)) = absurd (omega (arith, count_rises b a other more))

  abbrev IsFound : ℕ → ℕ → Type 0
  IsFound n c = (a : ℕ) × (a < n) × (f a ≡ true) × (count_below f a ≡ c)

  found_here : (n c : ℕ) (b : Bool) → f n ≡ b → (c < count_below f n → IsFound n c) → c < count_below f (suc n) → IsFound (suc n) c
  found_here n c true is back less = elim (cases_eq c (count_below f n)) [
    | inl same ↦ (n, omega arith, is, sym same)
    | inr other ↦ (let found = back (omega (arith, less, count_passed n is, other)) in (found.0, omega (arith, found.1), found.2, found.3))
  ]
  found_here n c false is back less = let found = back (omega (arith, less, count_failed n is)) in (found.0, omega (arith, found.1), found.2, found.3)

  -- for each lower count there is a number that passes
  pub count_found : (n c : ℕ) → c < count_below f n → IsFound n c
  count_found zero c less = absurd (omega arith)
  count_found (suc n) c less = found_here n c (f n) refl (count_found n c) less

  within_here : (n : ℕ) (b : Bool) → f n ≡ b → count_below f n ≤ n → count_below f (suc n) ≤ suc n
  within_here n true is few = omega (arith, few, count_passed n is)
  within_here n false is few = omega (arith, few, count_failed n is)

  pub count_within : (n : ℕ) → count_below f n ≤ n
  count_within zero = omega arith
  count_within (suc n) = within_here n (f n) refl (count_within n)

-- tests that tell the same of each number count the same
pub count_same : (f g : ℕ → Bool) (n : ℕ) → ((i : ℕ) → i < n → f i ≡ g i) → count_below f n ≡ count_below g n
count_same f g zero same = refl
count_same f g (suc n) same =
    omega (arith, count_same f g n (λ i less. same i (omega arith)), ap {B = ℕ} (λ (x : Bool). cond x 1 0) (same n (omega arith)))
