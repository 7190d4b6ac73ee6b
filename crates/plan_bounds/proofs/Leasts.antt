-- The least of numbers of which something holds: of one number, with more added, and of two kinds together.
use Rattle.std.proofs.Common.{◌≡◌, ℕ, ◌+◌, ◌<◌, ◌≤◌, ◌⊎◌, inl, inr, Bool, true, false, Option, None, Some, arith, refl}
use Rattle.std.specs.Prelude.{nat_le, if◌then◌else◌}
use Rattle.std.proofs.lemmas.Bool.Decides.{leb_tells}
use Rattle.plan_bounds.specs.Bounds.{IsLeast}
use Rattle.plan_bounds.specs.Seen.{lesser_of, plus}

-- of one number alone
pub least_one : (n : ℕ) → IsLeast (λ x. x ≡ n) (Some n)
least_one n = (refl, λ y is. omega (arith, is))

-- of numbers with d added to each
pub least_plus : (P : ℕ → Type 0) (d : ℕ) (o : Option ℕ) → IsLeast P o → IsLeast (λ x. (y : ℕ) × P y × (x ≡ y + d)) (plus o d)
least_plus P d None none = λ x found. none found.0 found.1
least_plus P d (Some n) least = ((n, least.0, refl), λ x found. omega (arith, least.1 found.0 found.1, found.2))

-- of two kinds together
module _ (P Q R : ℕ → Type 0) (left : (x : ℕ) → P x → R x) (right : (x : ℕ) → Q x → R x) (only : (x : ℕ) → R x → P x ⊎ Q x) where
  pub least_of_two : (a b : Option ℕ) → IsLeast P a → IsLeast Q b → IsLeast R (lesser_of a b)
  least_of_two None None none_p none_q = λ x found. elim (only x found) [ inl is ↦ none_p x is | inr is ↦ none_q x is ]
  least_of_two None (Some y) none_p least = (right y least.0, λ x found. elim (only x found) [ inl is ↦ absurd (none_p x is) | inr is ↦ least.1 x is ])
  least_of_two (Some x) None least none_q = (left x least.0, λ y found. elim (only y found) [ inl is ↦ least.1 y is | inr is ↦ absurd (none_q y is) ])
  least_of_two (Some x) (Some y) one other = go (nat_le x y) (leb_tells x y)
    where
      go : (b : Bool) → ((b ≡ true) × (x ≤ y)) ⊎ ((b ≡ false) × (y < x)) → IsLeast R (if b then Some x else Some y)
      go true (inl (is, less)) = (left x one.0, λ z found. elim (only z found) [ inl of ↦ one.1 z of | inr of ↦ omega (arith, other.1 z of, less) ])
      go true (inr (is, more)) = absurd (cc is)
      go false (inl (is, less)) = absurd (cc is)
      go false (inr (is, more)) = (right y other.0, λ z found. elim (only z found) [ inl of ↦ omega (arith, one.1 z of, more) | inr of ↦ other.1 z of ])

-- of two things that hold of the same numbers
pub least_same : (P R : ℕ → Type 0) → ((x : ℕ) → P x → R x) → ((x : ℕ) → R x → P x) → (o : Option ℕ) → IsLeast P o → IsLeast R o
least_same P R to from None none = λ x found. none x (from x found)
least_same P R to from (Some x) least = (to x least.0, λ y found. least.1 y (from y found))
