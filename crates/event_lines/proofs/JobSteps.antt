-- A job's step as a word: two numbers, and the dot between them.
use Rattle.std.proofs.Common.{◌≡◌, ℕ, true, List, [], ◌∷◌, ◌++◌, refl, sym, ap, ◌∙◌, subst, arith}
use Rattle.std.specs.List.{list_all}
use Rattle.std.proofs.lemmas.Bool.{and_parts}
use Rattle.text_lines.specs.Numbers.{is_digit, value_of, IsNumeral}
use Rattle.text_lines.specs.Cuts.{HasNone, IsCutAt}
use Rattle.text_lines.proofs.Digits.{digit_bounds}
use Rattle.event_lines.specs.Words.{JobStep, moment, IsJobStep, AreRead, IsReadAs}
use Rattle.event_lines.specs.FirstWords.{IsNoStepAndMoment}
use Rattle.event_lines.proofs.WordByWord.{words_first, words_one, only_of, alone_number}

-- no digit is a dot
no_dot : (word : List ℕ) → list_all is_digit word ≡ true → HasNone 46 word
no_dot [] all = tt
no_dot (b ∷ word) all =
    let parts = and_parts (is_digit b) (list_all is_digit word) all in
    let bounds = digit_bounds b parts.0 in
    (grind (arith), no_dot word parts.1)

-- bytes are cut at their first dot in one way
same_cut : (first word rest more : List ℕ) → HasNone 46 first → HasNone 46 word → first ++ 46 ∷ rest ≡ word ++ 46 ∷ more → (first ≡ word) × (rest ≡ more)
same_cut [] [] rest more h k e = (refl, cc)
same_cut [] (b ∷ word) rest more h k e = let dot : 46 ≡ b = cc in let other = k.0 in absurd (cc)
same_cut (b ∷ first) [] rest more h k e = let dot : b ≡ 46 = cc in let other = h.0 in absurd (cc)
same_cut (b ∷ first) (c ∷ word) rest more h k e =
    let tails : first ++ 46 ∷ rest ≡ word ++ 46 ∷ more = cc in
    let heads : b ≡ c = cc in
    let others = same_cut first word rest more h.1 k.1 tails in
    let words = others.0 in
    (cc, others.1)

-- bytes without a dot aren't
no_cut : (bytes word more : List ℕ) → HasNone 46 bytes → bytes ≡ word ++ 46 ∷ more → ⊥
no_cut [] [] more h e = cc
no_cut [] (c ∷ word) more h e = cc
no_cut (b ∷ bytes) [] more h e = let dot : b ≡ 46 = cc in let other = h.0 in cc
no_cut (b ∷ bytes) (c ∷ word) more h e = let tails : bytes ≡ word ++ 46 ∷ more = cc in no_cut bytes word more h.1 tails

-- so a word is one job's step at most
pub one_step : (bytes : List ℕ) (i k j l : ℕ) → IsJobStep bytes i k → IsJobStep bytes j l → (j ≡ i) × (l ≡ k)
one_step bytes i k j l is also =
    let same = same_cut also.front is.front also.back is.back (no_dot also.front also.is_job.digits) (no_dot is.front is.is_job.digits) (sym also.split ∙ is.split) in
    (also.is_job.value ∙ ap value_of same.0 ∙ sym is.is_job.value, also.is_step.value ∙ ap value_of same.1 ∙ sym is.is_step.value)

-- and no number
pub no_numeral : (bytes : List ℕ) (most n j k : ℕ) → IsNumeral most bytes n → IsJobStep bytes j k → ⊥
no_numeral bytes most n j k is also = no_cut bytes also.front also.back (no_dot bytes is.digits) also.split

-- ---- a word that is read

pub no_step_without_dot : (word : List ℕ) → HasNone 46 word → (job step : ℕ) → IsJobStep word job step → ⊥
no_step_without_dot word none job step is = no_cut word is.front is.back none is.split

module _ (word front back : List ℕ) (cut : IsCutAt 46 word front back) where
  parts : (job step : ℕ) → IsJobStep word job step → IsNumeral 9 front job × IsNumeral 9 back step
  parts job step is =
      let same = same_cut is.front front is.back back (no_dot is.front is.is_job.digits) cut.before (sym is.split ∙ cut.split) in
      (subst (λ (l : List ℕ). IsNumeral 9 l job) same.0 is.is_job, subst (λ (l : List ℕ). IsNumeral 9 l step) same.1 is.is_step)

  pub no_job : ((n : ℕ) → IsNumeral 9 front n → ⊥) → (job step : ℕ) → IsJobStep word job step → ⊥
  no_job none job step is = none job (parts job step is).0

  pub no_step : ((n : ℕ) → IsNumeral 9 back n → ⊥) → (job step : ℕ) → IsJobStep word job step → ⊥
  no_step none job step is = none step (parts job step is).1

-- ---- and a moment behind it

pub no_moment_behind : (line : List ℕ) → HasNone 32 line → IsNoStepAndMoment line
no_moment_behind line none job step at found = (subst (λ (ws : List (List ℕ)). AreRead ws (JobStep job step ∷ moment at ∷ [])) (words_one line none) found).1

module _ (line word rest : List ℕ) (cut : IsCutAt 32 line word rest) where
  words_of : (job step at : ℕ) → IsReadAs line (JobStep job step ∷ moment at ∷ []) → IsJobStep word job step × IsReadAs rest (moment at ∷ [])
  words_of job step at found = subst (λ (ws : List (List ℕ)). AreRead ws (JobStep job step ∷ moment at ∷ [])) (words_first line word rest cut) found

  pub no_step_first : ((job step : ℕ) → IsJobStep word job step → ⊥) → IsNoStepAndMoment line
  no_step_first none job step at found = none job step (words_of job step at found).0

  pub no_moment_last : ((at : ℕ) → IsNumeral 13 rest at → ⊥) → IsNoStepAndMoment line
  no_moment_last none job step at found = none at (only_of rest (moment at) (words_of job step at found).1)

  pub step_and_moment : (job step at : ℕ) → IsJobStep word job step → IsNumeral 13 rest at → IsReadAs line (JobStep job step ∷ moment at ∷ [])
  step_and_moment job step at is behind =
      subst (λ (ws : List (List ℕ)). AreRead ws (JobStep job step ∷ moment at ∷ [])) (sym (words_first line word rest cut)) (is, alone_number 13 at rest behind)
