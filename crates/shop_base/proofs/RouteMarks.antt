-- The marks that the check of a route keeps.
use Rattle.std.proofs.Common.{◌≡◌, ◌≢◌, ℕ, ◌+◌, ◌<◌, List, Bool, true, false, length, get_or, set, MatchBool, arith, get_or-set_same, get_or-set_other, sym, inl, inr, replicate, refl, ap, ◌∙◌}
use Rattle.std.proofs.lemmas.List.{get_or-replicate, get_or_past, length-replicate, length-set}
use Rattle.std.proofs.lemmas.Bool.Decides.{eqb_tells}
use Rattle.std.proofs.lemmas.Bool.{cases_lt}
use Rattle.shop_base.specs.declared.limits.TheConstants.{MAX_MACHINES}
use Rattle.shop_base.specs.declared.shop.Step.{Step}
use Rattle.shop_base.specs.Shop.{step_at}
use Rattle.shop_base.specs.ShopFault.{AreSoundSteps}
use Rattle.shop_base.specs.Marks.{AreMarks, IsVisitedBefore}

-- a mark is right: it is set exactly where the fact holds
abbrev IsRight : Bool → Type 0 → Type 0
IsRight mark P = MatchBool mark P (P → ⊥)

-- no mark is set at first
unset_at : (size j : ℕ) → get_or (replicate size false) j false ≡ false
unset_at size j = elim (cases_lt j size) [
  | inl lower ↦ get_or-replicate size j false false lower
  | inr higher ↦ get_or_past (replicate size false) j false (omega (arith, length-replicate size false))
]

-- j is the number of one of the first n places
abbrev pub IsBefore : (ℕ → ℕ) → ℕ → ℕ → Type 0
IsBefore number n j = (a : ℕ) × (a < n) × (number a ≡ j)

-- no place was looked at
pub before_none : (size : ℕ) (number : ℕ → ℕ) → AreMarks (replicate size false) (IsBefore number 0)
before_none size number = λ j lt. rw (unset_at size j) (λ before. omega (arith, before.1))

-- one more place doesn't concern any other number
still : (number : ℕ → ℕ) (n j : ℕ) → j ≢ number n → (b : Bool) → IsRight b (IsBefore number n j) → IsRight b (IsBefore number (n + 1) j)
still number n j ne true before = (before.0, omega (arith, before.1), before.2)
still number n j ne false before = λ more. before (more.0, earlier more, more.2)
  where
    earlier : (more : IsBefore number (n + 1) j) → more.0 < n
    earlier more = elim (cases_lt more.0 n) [
      | inl lower ↦ lower
      | inr higher ↦ (let same : more.0 ≡ n = omega (arith, more.1) in absurd (ne (sym more.2 ∙ ap number same)))
    ]

module _ (marks : List Bool) (number : ℕ → ℕ) (n : ℕ) (are : AreMarks marks (IsBefore number n)) (inside : number n < length marks) where
  -- one more place, whose number is marked
  pub before_more : AreMarks (set marks (number n) true) (IsBefore number (n + 1))
  before_more = λ j lt. at j (omega (arith, length-set marks (number n) true))
    where
      at : (j : ℕ) → j < length marks → IsRight (get_or (set marks (number n) true) j false) (IsBefore number (n + 1) j)
      at j lt = elim (eqb_tells j (number n)) [
        | inl same ↦ rw (same.1, get_or-set_same marks (number n) true false inside) (n, omega arith, refl)
        | inr other ↦ rw (get_or-set_other marks (number n) j true false other.1) (still number n j other.1 _ (are j lt))
      ]

-- the first n steps of a route are sound, and their machines are marked
pub record AreStepsChecked (machines : ℕ) (again : Bool) (route : List Step) (visited : List Bool) (n : ℕ) : Type 0 where
  pub sound : AreSoundSteps machines again route n
  pub marks : AreMarks visited (IsVisitedBefore route n)
  pub size : length visited ≡ MAX_MACHINES

-- no step was looked at
pub steps_none : (machines : ℕ) (again : Bool) (route : List Step) → AreStepsChecked machines again route (replicate MAX_MACHINES false) 0
steps_none machines again route = record {
  sound = λ k lt. absurd (omega arith);
  marks = before_none MAX_MACHINES (λ k. (step_at route k).machine);
  size = length-replicate MAX_MACHINES false;
}
