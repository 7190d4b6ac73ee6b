-- The moments of leavings, and their words.
use native.Mathlib.Numerals.{unary_clauses}
use Rattle.std.proofs.Common.{◌≡◌, ℕ, zero, suc, ◌+◌, ◌<◌, List, [], ◌∷◌, ◌++◌, decimal, codes, arith, refl, sym, ap, ◌∙◌}
use Rattle.std.proofs.{lemmas.Grind.flat_map-append, lemmas.List.{append-nil, append_assoc}}
use Rattle.plan_explain.specs.FirstLines.{moment_words, moments_below}

-- one more moment
pub moments_more : (f : ℕ → ℕ) (n : ℕ) → moments_below f (n + 1) ≡ moments_below f n ++ f n ∷ []
moments_more f n = simp unary_clauses refl

pub moment_words_more : (moments : List ℕ) (n : ℕ) → moment_words (moments ++ n ∷ []) ≡ moment_words moments ++ (codes " " ++ decimal n)
moment_words_more moments n = flat_map-append (λ k. codes " " ++ decimal k) moments (n ∷ []) ∙ ap (λ words. moment_words moments ++ words) (append-nil (codes " " ++ decimal n))

-- one more moment is written
pub words_more : (old text new : List ℕ) (f : ℕ → ℕ) (n moment : ℕ) → text ≡ old ++ moment_words (moments_below f n) → moment ≡ f n → new ≡ text ++ codes " " ++ decimal moment
    → new ≡ old ++ moment_words (moments_below f (n + 1))
words_more old text new f n moment written is added =
    let word : List ℕ = codes " " ++ decimal (f n) in
    added ∙ ap (λ m. text ++ codes " " ++ decimal m) is ∙ append_assoc text (codes " ") (decimal (f n)) ∙ ap (λ words. words ++ word) written
    ∙ append_assoc old (moment_words (moments_below f n)) word
    ∙ ap (λ words. old ++ words) (sym (moment_words_more (moments_below f n) (f n)) ∙ ap moment_words (sym (moments_more f n)))

-- leavings that are the same of each of the first n jobs have the same moments
pub moments_same : (f g : ℕ → ℕ) (n : ℕ) → ((j : ℕ) → j < n → f j ≡ g j) → moments_below f n ≡ moments_below g n
moments_same f g zero same = refl
moments_same f g (suc n) same = ap (λ l. l ++ f n ∷ []) (moments_same f g n (λ j lt. same j (omega arith))) ∙ ap (λ m. moments_below g n ++ m ∷ []) (same n (omega arith))
