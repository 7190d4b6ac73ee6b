-- Marks and numbers with one job more.
use Rattle.std.proofs.Common.{◌≡◌, ℕ, suc, ◌+◌, ◌<◌, ◌≤◌, inl, inr, List, [], ◌∷◌, ◌++◌, length, length-append, get_or, Option, None, Some, is_some, Bool, true, false, cond, if◌then◌else◌, refl, sym, ap, ap₂, ◌∙◌, arith}
use Rattle.std.proofs.Math.ListN.{get_or-append}
use Rattle.std.proofs.Math.Seq.{get_or-append_seam}
use Rattle.std.proofs.lemmas.Bool.{cases_lt}
use Rattle.std.proofs.lemmas.List.{map-append, length-map}
use Rattle.shop_base.specs.declared.limits.TheConstants.{MAX_JOBS}
use Rattle.shop_base.proofs.Counting.{count_same, count_passed, count_failed}
use Rattle.run_pruning.specs.Staying.{stays, new_number}
use Rattle.run_pruning.specs.Numbers.{number_if_kept, marks_of, AreNumbers}

module _ (marks : List Bool) (b : Bool) where
  -- the others stay as they did
  pub stays_before : (j : ℕ) → j < length marks → stays (marks ++ b ∷ []) j ≡ stays marks j
  stays_before j less = get_or-append marks (b ∷ []) false j less

  pub stays_last : stays (marks ++ b ∷ []) (length marks) ≡ b
  stays_last = get_or-append_seam marks b [] false

  number_before : (n : ℕ) → n ≤ length marks → new_number (marks ++ b ∷ []) n ≡ new_number marks n
  number_before n within = count_same (stays (marks ++ b ∷ [])) (stays marks) n (λ i less. stays_before i (omega (arith, within)))

  -- and so have their numbers
  number_of_before : (j : ℕ) → j < length marks → number_if_kept (marks ++ b ∷ []) j ≡ number_if_kept marks j
  number_of_before j less = ap₂ (λ (x : Bool) (n : ℕ). if x then Some n else None) (stays_before j less) (number_before j (omega (arith, less)))

  number_of_last : number_if_kept (marks ++ b ∷ []) (length marks) ≡ (if b then Some (new_number marks (length marks)) else None)
  number_of_last = ap₂ (λ (x : Bool) (n : ℕ). if x then Some n else None) stays_last (number_before (length marks) (omega arith))

  count_more : new_number (marks ++ b ∷ []) (suc (length marks)) ≡ new_number marks (length marks) + cond b 1 0
  count_more = go b stays_last
    where
      go : (x : Bool) → stays (marks ++ b ∷ []) (length marks) ≡ x → new_number (marks ++ b ∷ []) (suc (length marks)) ≡ new_number marks (length marks) + cond x 1 0
      go true is = omega (arith, count_passed (stays (marks ++ b ∷ [])) (length marks) is, number_before (length marks) (omega arith))
      go false is = omega (arith, count_failed (stays (marks ++ b ∷ [])) (length marks) is, number_before (length marks) (omega arith))

-- a number more is a mark more
pub marks_more : (numbers : List (Option ℕ)) (o : Option ℕ) → marks_of (numbers ++ o ∷ []) ≡ marks_of numbers ++ is_some o ∷ []
marks_more numbers o = map-append (λ n. is_some n) numbers (o ∷ [])

-- a job has a number where it stays
number_mark : (b : Bool) (n : ℕ) → is_some (if b then Some n else None) ≡ b
number_mark true n = refl
number_mark false n = refl

pub numbers_more : (numbers : List (Option ℕ)) (count next : ℕ) (b : Bool) (o : Option ℕ) → AreNumbers numbers count → length numbers < MAX_JOBS → o ≡ (if b then Some count else None)
    → next ≡ count + cond b 1 0 → AreNumbers (numbers ++ o ∷ []) next
numbers_more numbers count next b o are few is more = record {
  each = λ j less. elim (cases_lt j (length numbers)) [
    | inl inside ↦ get_or-append numbers (o ∷ []) None j inside ∙ are.each j inside ∙ sym (number_of_before (marks_of numbers) b j (omega (arith, inside, size))) ∙ sym (ap (λ ms. number_if_kept ms j) marks)
    | inr past ↦ (let last : j ≡ length numbers = omega (arith, less, past, length-append numbers (o ∷ [])) in
        ap (λ x. get_or (numbers ++ o ∷ []) x None) last ∙ get_or-append_seam numbers o [] None ∙ is ∙ ap (λ n. if b then Some n else None) (are.all ∙ ap (new_number (marks_of numbers)) (sym size))
        ∙ sym (number_of_last (marks_of numbers) b) ∙ ap (number_if_kept (marks_of numbers ++ b ∷ [])) (size ∙ sym last) ∙ sym (ap (λ ms. number_if_kept ms j) marks))
  ];
  all = omega (
    arith,
    more,
    are.all,
    count_more (marks_of numbers) b,
    ap (new_number (marks_of numbers)) size,
    ap (λ ms. new_number ms (length (numbers ++ o ∷ []))) marks,
    ap (new_number (marks_of numbers ++ b ∷ [])) longer,
  );
  few = omega (arith, few, length-append numbers (o ∷ []));
}
  where
    marks : marks_of (numbers ++ o ∷ []) ≡ marks_of numbers ++ b ∷ []
    marks = marks_more numbers o ∙ ap (λ x. marks_of numbers ++ x ∷ []) (ap (λ x. is_some x) is ∙ number_mark b count)

    size : length (marks_of numbers) ≡ length numbers
    size = length-map numbers (λ n. is_some n)

    longer : suc (length (marks_of numbers)) ≡ length (numbers ++ o ∷ [])
    longer = omega (arith, size, length-append numbers (o ∷ []))

-- there is a number where the job stays
pub number_stays : (marks : List Bool) (j : ℕ) (o : Option ℕ) (b : Bool) → o ≡ number_if_kept marks j → is_some o ≡ b → stays marks j ≡ b
number_stays marks j o b is mark = go (stays marks j) refl
  where
    go : (x : Bool) → stays marks j ≡ x → stays marks j ≡ b
    go true kept = kept ∙ sym (ap (λ y. is_some (if y then Some (new_number marks j) else None)) kept) ∙ sym (ap (λ x. is_some x) is) ∙ mark
    go false dropped = dropped ∙ sym (ap (λ y. is_some (if y then Some (new_number marks j) else None)) dropped) ∙ sym (ap (λ x. is_some x) is) ∙ mark
