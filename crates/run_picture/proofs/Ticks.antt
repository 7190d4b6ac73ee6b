-- The multiples of a step up to the last moment, one after another.
use Rattle.std.proofs.Common.{◌≡◌, ℕ, zero, suc, ◌+◌, ◌-◌, ◌*◌, ◌/◌, ◌%◌, ◌<◌, ◌≤◌, true, false, List, [], ◌∷◌, ◌++◌, length, cond, ◌⊎◌, inl, inr, refl, ap, subst, ◌∙◌, arith, append-nil}
use Rattle.std.specs.List.{filter, range_with_len}
use Rattle.std.proofs.Math.Nat.{add-mul-mod_self_right, mod-add-div', mod-lt, suc-mul, mul-le-mul_right}
use Rattle.std.proofs.lemmas.Nat.{mod-mul-add}
use Rattle.std.proofs.lemmas.Bool.{cases_eq, eq-eqb}
use Rattle.std.proofs.lemmas.Bool.Decides.{nat_tests}
use Rattle.std.proofs.lemmas.List.Elements.{filter-append}
use Rattle.std.proofs.lemmas.List.FromFn.{map-range_with_len_more, length-map-range_with_len}
use Rattle.run_picture.specs.Axis.{is_tick, ticks_by}
use Rattle.run_picture.specs.Steps.{moments_by, IsFirstTick}

-- what is less than a step past a multiple is none
past_multiple : (x d step : ℕ) → x % step ≡ 0 → 0 < d → d < step → (x + d) % step ≡ 0 → ⊥
past_multiple x d step here above below there =
    let parts : x % step + (x / step) * step ≡ x = mod-add-div' x step in
    let whole : x + d ≡ (x / step) * step + d = omega arith in
    let rest : (x + d) % step ≡ d = rw whole (mod-mul-add (x / step) step d below) in
    omega arith

-- numbers that follow each other, and one more
range_more : (a n j : ℕ) → a + n ≡ j → range_with_len a (suc n) ≡ range_with_len a n ++ j ∷ []
range_more a zero j is = let same : a ≡ j = omega arith in ap (λ (x : ℕ). x ∷ []) same
range_more a (suc n) j is = ap (λ (l : List ℕ). a ∷ l) (range_more (a + 1) n j (omega arith))

module _ (begin step first : ℕ) (is : IsFirstTick begin step first) where
  -- each moment by the step from the first on is a multiple
  is_multiple : (count n : ℕ) → first + count * step ≡ n → (begin + n) % step ≡ 0
  is_multiple count n at =
      let sum : begin + n ≡ (begin + first) + count * step = omega arith in
      rw sum (add-mul-mod_self_right (begin + first) count step ∙ is.tick)

  -- a moment between two of them is none
  between : (count n : ℕ) → n < first + count * step → first + count * step < n + step → (begin + n) % step ≡ 0 → ⊥
  between count n from to here =
      let gap = first + count * step - n in
      let whole : first + count * step ≡ n + gap = omega arith in
      past_multiple (begin + n) gap step here (omega arith) (omega arith)
      (let sum : begin + n + gap ≡ begin + (n + gap) = omega arith in rw sum (is_multiple count (n + gap) whole))

  -- the ticks below one more moment
  more : (n : ℕ) → filter (is_tick begin step) (range_with_len 0 (suc n)) ≡ filter (is_tick begin step) (range_with_len 0 n) ++ cond (is_tick begin step n) (n ∷ []) []
  more n = ap (filter (is_tick begin step)) (range_more 0 n n (omega arith)) ∙ filter-append (is_tick begin step) (range_with_len 0 n) (n ∷ [])

  -- the moments by the step, and one more
  moments_more : (count : ℕ) → moments_by first step (suc count) ≡ moments_by first step count ++ (first + count * step) ∷ []
  moments_more count =
      let on : count + 1 ≡ suc count = omega arith in
      subst (λ (n : ℕ). moments_by first step n ≡ moments_by first step count ++ (first + count * step) ∷ []) on
      (map-range_with_len_more (λ (i : ℕ). first + i * step) 0 count count (omega arith))

  -- the multiples below n, where so many of them are
  ticks_below : (n count : ℕ) → n ≤ first + count * step → first + count * step < n + step → filter (is_tick begin step) (range_with_len 0 n) ≡ moments_by first step count
  ticks_below zero zero from to = refl
  ticks_below zero (suc count) from to = absurd (omega (arith, suc-mul count step))
  ticks_below (suc n) count from to = go (λ c low high. ticks_below n c low high) count from to (cases_eq (first + count * step) (n + step))
    where
      go : ((c : ℕ) → n ≤ first + c * step → first + c * step < n + step → filter (is_tick begin step) (range_with_len 0 n) ≡ moments_by first step c)
          → (c : ℕ) → suc n ≤ first + c * step → first + c * step < suc n + step → (first + c * step ≡ n + step) ⊎ (first + c * step ≡ n + step → ⊥)
          → filter (is_tick begin step) (range_with_len 0 (suc n)) ≡ moments_by first step c
      go below zero from to (inl same) = absurd (omega (arith, is.early))
      go below (suc c) from to (inl same) =
          let at : first + c * step ≡ n = omega (arith, suc-mul c step) in
          let yes : is_tick begin step n ≡ true = eq-eqb ((begin + n) % step) 0 (is_multiple c n at) in
          let so_far : filter (is_tick begin step) (range_with_len 0 n) ≡ moments_by first step c = below c (omega arith) (omega (arith, is.above)) in
          more n ∙ rw (yes, so_far, moments_more c, at) refl
      go below c from to (inr other) =
          let no : is_tick begin step n ≡ false = not_multiple (cases_eq ((begin + n) % step) 0) in
          more n ∙ rw no (append-nil (filter (is_tick begin step) (range_with_len 0 n)) ∙ below c (omega arith) (omega (arith, other)))
        where
          not_multiple : ((begin + n) % step ≡ 0) ⊎ ((begin + n) % step ≡ 0 → ⊥) → is_tick begin step n ≡ false
          not_multiple (inl here) = absurd (between c n (omega arith) (omega (arith, other)) here)
          not_multiple (inr none) = grind (arith, nat_tests, none)

  -- up to the last moment
  pub ticks_are : (last count : ℕ) → last < first + count * step → first + count * step ≤ last + step → ticks_by begin last step ≡ moments_by first step count
  ticks_are last count from to = ticks_below (last + 1) count (omega arith) (omega arith)

  -- there are none before the first one
  pub none_before : (last : ℕ) → last < first → ticks_by begin last step ≡ moments_by first step 0
  none_before last before = ticks_are last 0 (omega arith) (omega (arith, is.early))

  -- behind it, one a step
  pub one_a_step : (last : ℕ) → first ≤ last → ticks_by begin last step ≡ moments_by first step ((last - first) / step + 1)
  one_a_step last behind =
      let whole : (last - first) / step * step + (last - first) % step ≡ last - first = omega (arith, mod-add-div' (last - first) step) in
      let below : (last - first) % step < step = mod-lt (last - first) is.above in
      let one_more : ((last - first) / step + 1) * step ≡ (last - first) / step * step + step = (let on : (last - first) / step + 1 ≡ suc ((last - first) / step) = omega arith in rw on (suc-mul ((last - first) / step) step)) in
      ticks_are last ((last - first) / step + 1) (omega arith) (omega arith)

-- how many moments by a step there are
pub length-moments_by : (first step count : ℕ) → length (moments_by first step count) ≡ count
length-moments_by first step count = length-map-range_with_len (λ (i : ℕ). first + i * step) 0 count

-- each is up to the last moment
pub steps_within : (first last step i : ℕ) → first ≤ last → i < (last - first) / step + 1 → first + i * step ≤ last
steps_within first last step i behind below =
    let least : i * step ≤ (last - first) / step * step = mul-le-mul_right step (omega arith) in
    omega (arith, mod-add-div' (last - first) step)
