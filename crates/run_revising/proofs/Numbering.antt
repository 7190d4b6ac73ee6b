-- The numbers of the jobs that stay, one more of them at a time.
use Rattle.std.proofs.Common.{◌≡◌, ℕ, suc, ◌+◌, ◌<◌, ◌≤◌, List, [], ◌∷◌, ◌++◌, length, drop, Bool, true, false, sym, ap, ◌∙◌, subst, append_assoc, append-nil, add-one, drop-cons, zero, refl, cond, replicate, arith, get_or}
use Rattle.std.proofs.lemmas.List.{drop_all}
use Rattle.run_pruning.specs.Staying.{stays, new_number}
use Rattle.run_pruning.proofs.Left.{count_first}
use Rattle.run_revising.specs.NextRuns.{numbers_kept}

module _ (numbers all : List ℕ) (marks : List Bool) (j : ℕ) (so_far : numbers ++ numbers_kept j (drop j marks) ≡ all) where
  module _ (inside : j < length marks) where
    from_there : (here : Bool) → stays marks j ≡ here → drop j marks ≡ here ∷ drop (j + 1) marks
    from_there here is =
        drop-cons marks j false inside
        ∙ ap (λ (b : Bool). b ∷ drop (suc j) marks) is
        ∙ ap (λ (n : ℕ). here ∷ drop n marks) (sym (add-one j))

    -- a job that stays
    pub one_that_stays : stays marks j ≡ true → (numbers ++ j ∷ []) ++ numbers_kept (j + 1) (drop (j + 1) marks) ≡ all
    one_that_stays is =
        append_assoc numbers (j ∷ []) (numbers_kept (j + 1) (drop (j + 1) marks))
        ∙ subst (λ (ms : List Bool). numbers ++ numbers_kept j ms ≡ all) (from_there true is) so_far

    -- a job that doesn't
    pub one_that_goes : stays marks j ≡ false → numbers ++ numbers_kept (j + 1) (drop (j + 1) marks) ≡ all
    one_that_goes is = subst (λ (ms : List Bool). numbers ++ numbers_kept j ms ≡ all) (from_there false is) so_far

  -- behind the last one
  pub all_numbered : length marks ≤ j → numbers ≡ all
  all_numbered past = sym (append-nil numbers) ∙ subst (λ (ms : List Bool). numbers ++ numbers_kept j ms ≡ all) (drop_all j marks past) so_far

-- of all jobs the number at place i is i
pub all_at : (n j i : ℕ) → i < n → get_or (numbers_kept j (replicate n true)) i 0 ≡ j + i
all_at zero j i inside = absurd (omega (arith, inside))
all_at (suc n) j zero inside = omega arith
all_at (suc n) j (suc i) inside = omega (arith, all_at n (j + 1) i (omega (arith, inside)))

pub all_count : (n j : ℕ) → length (numbers_kept j (replicate n true)) ≡ n
all_count zero j = refl
all_count (suc n) j = omega (arith, all_count n (j + 1))

-- of those that stay the number at place i is that of the job whose new number is i
pub record IsNumberAt (marks : List Bool) (j i : ℕ) : Type 0 where
  pub job : ℕ
  pub is : get_or (numbers_kept j marks) i 0 ≡ j + job
  pub kept : stays marks job ≡ true
  pub number : new_number marks job ≡ i

further_at : (b : Bool) (marks : List Bool) (j i k : ℕ) → cond b 1 0 + i ≡ k → get_or (numbers_kept j (b ∷ marks)) k 0 ≡ get_or (numbers_kept (j + 1) marks) i 0 → IsNumberAt marks (j + 1) i → IsNumberAt (b ∷ marks) j k
further_at b marks j i k place same at = record {
  job = suc at.job;
  is = omega (arith, same, at.is);
  kept = at.kept;
  number = omega (arith, count_first (stays (b ∷ marks)) at.job, at.number, place);
}

pub number_at : (marks : List Bool) (j i : ℕ) → i < length (numbers_kept j marks) → IsNumberAt marks j i
number_at [] j i inside = absurd (omega (arith, inside))
number_at (true ∷ marks) j zero inside = record { job = 0; is = omega arith; kept = refl; number = refl }
number_at (true ∷ marks) j (suc i) inside = further_at true marks j i (suc i) (omega arith) refl (number_at marks (j + 1) i (omega (arith, inside)))
number_at (false ∷ marks) j i inside = further_at false marks j i i (omega arith) refl (number_at marks (j + 1) i inside)
