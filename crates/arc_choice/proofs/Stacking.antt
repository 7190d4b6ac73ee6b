-- Branches that wait on a stack.
use Rattle.std.proofs.Common.{◌≡◌, ℕ, ◌<◌, ◌⊎◌, inl, inr, Bool, true, false, not, List, [], ◌∷◌, ◌++◌, length, arith}
use Rattle.arc_choice.specs.declared.question.Question.{Question}
use Rattle.arc_choice.specs.declared.branch.Branch.{Branch}
use Rattle.arc_choice.specs.declared.exploring.Waiting.{Waiting}
use Rattle.arc_choice.specs.declared.exploring.Outcome.{Outcome}
use Rattle.arc_choice.specs.declared.exploring.Outcome.TheVariants.{Never, Chosen, Open}
use Rattle.arc_choice.specs.Outcomes.{OnNever}
use Rattle.arc_choice.specs.Choices.{Keeps, KeepsOne, Answers, side_of, pair_at}
use Rattle.arc_choice.specs.Branches.{IsBranch, IsWithin, IsCopy, Narrows, HasNone, Always}
use Rattle.arc_choice.specs.Waits.{IsWaiting, AreWaiting, IsWithinOne, IsWithinSome, Goes, Splits}
use Rattle.arc_choice.proofs.Narrowing.{copied}

pub waiting_push : (q : Question) (xs : List Waiting) (x : Waiting) → AreWaiting q xs → IsWaiting q x → AreWaiting q (xs ++ x ∷ [])
waiting_push q [] x are is = (is, tt)
waiting_push q (y ∷ xs) x (one, are) is = (one, waiting_push q xs x are is)

pub waiting_pop : (q : Question) (xs : List Waiting) (x : Waiting) → AreWaiting q (xs ++ x ∷ []) → AreWaiting q xs × IsWaiting q x
waiting_pop q [] x are = (tt, are.0)
waiting_pop q (y ∷ xs) x (one, are) = let rest = waiting_pop q xs x are in ((one, rest.0), rest.1)

pub some_still : (q : Question) (xs : List Waiting) (x : Waiting) (w : ℕ → ℕ) → IsWithinSome q xs w → IsWithinSome q (xs ++ x ∷ []) w
some_still q [] x w none = absurd none
some_still q (y ∷ xs) x w (inl here) = inl here
some_still q (y ∷ xs) x w (inr there) = inr (some_still q xs x w there)

pub some_new : (q : Question) (xs : List Waiting) (x : Waiting) (w : ℕ → ℕ) → IsWithinOne q x w → IsWithinSome q (xs ++ x ∷ []) w
some_new q [] x w within = inl within
some_new q (y ∷ xs) x w within = inr (some_new q xs x w within)

pub some_split : (q : Question) (xs : List Waiting) (x : Waiting) (w : ℕ → ℕ) → IsWithinSome q (xs ++ x ∷ []) w → IsWithinSome q xs w ⊎ IsWithinOne q x w
some_split q [] x w (inl within) = inr within
some_split q [] x w (inr none) = absurd none
some_split q (y ∷ xs) x w (inl here) = inl (inl here)
some_split q (y ∷ xs) x w (inr there) = go (some_split q xs x w there)
  where
    go : IsWithinSome q xs w ⊎ IsWithinOne q x w → IsWithinSome q (y ∷ xs) w ⊎ IsWithinOne q x w
    go (inl old) = inl (inr old)
    go (inr new) = inr new

-- nothing is left once nothing waits
pub none_left : (q : Question) (xs : List Waiting) (w : ℕ → ℕ) → length xs ≡ 0 → IsWithinSome q xs w → ⊥
none_left q [] w none some = some
none_left q (x ∷ xs) w none some = omega arith

-- of a pair each side or the other is kept
side_kept : (q : Question) (w : ℕ → ℕ) (p : ℕ) (one : Bool) → KeepsOne w (pair_at q p) → Keeps w (side_of q p one) ⊎ Keeps w (side_of q p (not one))
side_kept q w p true one = one
side_kept q w p false (inl one) = inr one
side_kept q w p false (inr other) = inl other

-- a branch waits with both sides
pub split_in_two : (q : Question) (b c : Branch) (p : ℕ) (one : Bool) (xs : List Waiting) → IsBranch q b → IsCopy b c → p < length q.pairs.items → AreWaiting q xs
    → Splits q b xs ((xs ++ record { branch = c; side = record { pair = p; one = not one } } ∷ []) ++ record { branch = b; side = record { pair = p; one = one } } ∷ [])
split_in_two q b c p one xs is copy inside are = record {
  waiting = waiting_push q (xs ++ second ∷ []) first (waiting_push q xs second are (record { branch = (copied q b c is copy).branch; pair = inside })) (record { branch = is; pair = inside });
  keeps = λ w answers some. go w answers some;
}
  where
    first : Waiting
    first = record { branch = b; side = record { pair = p; one = one } }

    second : Waiting
    second = record { branch = c; side = record { pair = p; one = not one } }

    by_side : (w : ℕ → ℕ) → Answers q w → IsWithin q b w → Keeps w (side_of q p one) ⊎ Keeps w (side_of q p (not one)) → IsWithinSome q ((xs ++ second ∷ []) ++ first ∷ []) w
    by_side w answers within (inl keeps) = some_new q (xs ++ second ∷ []) first w (record { within = within; keeps = keeps })
    by_side w answers within (inr keeps) = some_still q (xs ++ second ∷ []) first w (some_new q xs second w (record { within = (copied q b c is copy).keeps w answers tt within; keeps = keeps }))

    go : (w : ℕ → ℕ) → Answers q w → IsWithin q b w ⊎ IsWithinSome q xs w → IsWithinSome q ((xs ++ second ∷ []) ++ first ∷ []) w
    go w answers (inl within) = by_side w answers within (side_kept q w p one (answers.pairs p inside))
    go w answers (inr some) = some_still q (xs ++ second ∷ []) first w (some_still q xs second w some)

-- the last that waits is looked at
module _ (q : Question) (old xs : List Waiting) (x : Waiting) (keeps : (w : ℕ → ℕ) → Answers q w → IsWithinSome q old w → IsWithinSome q (xs ++ x ∷ []) w) where
  pub last_goes : (t : Branch) → AreWaiting q (xs ++ x ∷ []) → Narrows (λ w. Keeps w (side_of q x.side.pair x.side.one)) q x.branch t → Goes q t old xs
  last_goes t are one = record { is = one.branch; waiting = (waiting_pop q xs x are).0; keeps = λ w answers some. go w answers (some_split q xs x w (keeps w answers some)) }
    where
      go : (w : ℕ → ℕ) → Answers q w → IsWithinSome q xs w ⊎ IsWithinOne q x w → IsWithin q t w ⊎ IsWithinSome q xs w
      go w answers (inl some) = inr some
      go w answers (inr here) = inl (one.keeps w answers here.keeps here.within)

  pub last_fails : HasNone (λ w. Keeps w (side_of q x.side.pair x.side.one)) q x.branch → (w : ℕ → ℕ) → Answers q w → IsWithinSome q old w → IsWithinSome q xs w
  last_fails none w answers some = go (some_split q xs x w (keeps w answers some))
    where
      go : IsWithinSome q xs w ⊎ IsWithinOne q x w → IsWithinSome q xs w
      go (inl still) = still
      go (inr here) = absurd (none w answers here.keeps here.within)

-- what never comes to that
pub never_open : (P : Type 0) (outcome : Outcome) → OnNever ⊥ outcome → OnNever P outcome
never_open P Never none = absurd none
never_open P (Chosen moments) none = tt
never_open P Open none = tt

-- one branch stands for another
pub splits_from : (q : Question) (b c : Branch) (xs ys : List Waiting) → Narrows Always q b c → Splits q c xs ys → Splits q b xs ys
splits_from q b c xs ys one splits = record { waiting = splits.waiting; keeps = λ w answers some. splits.keeps w answers (go w answers some) }
  where
    go : (w : ℕ → ℕ) → Answers q w → IsWithin q b w ⊎ IsWithinSome q xs w → IsWithin q c w ⊎ IsWithinSome q xs w
    go w answers (inl within) = inl (one.keeps w answers tt within)
    go w answers (inr some) = inr some
