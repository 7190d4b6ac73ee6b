-- Sums over the numbers below a bound.
use Rattle.std.proofs.Common.{◌≡◌, ◌≢◌, ℕ, zero, suc, ◌+◌, ◌<◌, ◌≤◌, List, length, take, get_or, inl, inr, refl, ap, ◌∙◌, add-one, arith}
use Rattle.std.proofs.lemmas.Bool.{cases_eq}
use Rattle.std.proofs.lemmas.List.{take_all}
use Rattle.std.proofs.lemmas.List.Sums.{sum_by_more}
use Rattle.std.specs.List.{sum_by}
use Rattle.shop_base.specs.Ends.{sum_below}

pub sum_below_same : (f g : ℕ → ℕ) (n : ℕ) → ((i : ℕ) → i < n → f i ≡ g i) → sum_below f n ≡ sum_below g n
sum_below_same f g zero same = refl
sum_below_same f g (suc n) same = omega (arith, sum_below_same f g n (λ i below. same i (omega arith)), same n (omega arith))

-- two functions that differ at one place alone have sums that differ as they do there
pub sum_below_but : (f g : ℕ → ℕ) (n j : ℕ) → j < n → ((i : ℕ) → i < n → i ≢ j → f i ≡ g i) → sum_below f n + g j ≡ sum_below g n + f j
sum_below_but f g zero j below same = absurd (omega arith)
sum_below_but f g (suc n) j below same = elim (cases_eq n j) [
  | inl here ↦ omega (arith, sum_below_same f g n (λ i less. same i (omega arith) (omega arith)), ap f here, ap g here)
  | inr there ↦ omega (arith, sum_below_but f g n j (omega arith) (λ i less. same i (omega arith)), same n (omega arith) there)
]

-- a term is at most the sum
pub sum_below-le : (f : ℕ → ℕ) (n i : ℕ) → i < n → f i ≤ sum_below f n
sum_below-le f zero i below = absurd (omega arith)
sum_below-le f (suc n) i below = elim (cases_eq n i) [
  | inl here ↦ omega (arith, ap f here)
  | inr there ↦ omega (arith, sum_below-le f n i (omega arith))
]

pub sum_below_zero : (f : ℕ → ℕ) (n : ℕ) → ((i : ℕ) → i < n → f i ≡ 0) → sum_below f n ≡ 0
sum_below_zero f zero none = refl
sum_below_zero f (suc n) none = omega (arith, sum_below_zero f n (λ i below. none i (omega arith)), none n (omega arith))

-- with one more in each term
pub sum_below_more : (f : ℕ → ℕ) (n : ℕ) → sum_below (λ i. f i + 1) n ≡ n + sum_below f n
sum_below_more f zero = refl
sum_below_more f (suc n) = omega (arith, sum_below_more f n)

-- the sum over the elements of a list is that over its places
sum_below_take : {X : Type 0} (f : X → ℕ) (xs : List X) (d : X) (n : ℕ) → n ≤ length xs → sum_below (λ i. f (get_or xs i d)) n ≡ sum_by f (take n xs)
sum_below_take f xs d zero within = refl
sum_below_take f xs d (suc n) within =
    let more = rw add-one at (sum_by_more f xs n d within) in
    omega (arith, sum_below_take f xs d n (omega arith), more)

pub sum_below_list : {X : Type 0} (f : X → ℕ) (xs : List X) (d : X) → sum_below (λ i. f (get_or xs i d)) (length xs) ≡ sum_by f xs
sum_below_list f xs d = sum_below_take f xs d (length xs) (omega arith) ∙ ap (sum_by f) (take_all (length xs) xs (omega arith))
