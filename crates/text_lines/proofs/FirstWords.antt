-- The word before the first space of a line.
use Rattle.std.proofs.Common.{◌≡◌, ℕ, true, List, [], ◌∷◌, ◌++◌, refl, sym, ◌∙◌, arith}
use Rattle.std.specs.List.{list_all}
use Rattle.std.proofs.lemmas.Bool.{and_parts}
use Rattle.text_lines.specs.Numbers.{is_digit, IsNumeral}
use Rattle.text_lines.specs.Cuts.{HasNone, IsCutAt}
use Rattle.text_lines.proofs.Digits.{digit_bounds}

-- no digit is a space
pub no_space : (word : List ℕ) → list_all is_digit word ≡ true → HasNone 32 word
no_space [] all = tt
no_space (b ∷ word) all =
    let parts = and_parts (is_digit b) (list_all is_digit word) all in
    let bounds = digit_bounds b parts.0 in
    (grind (arith), no_space word parts.1)

-- a row of bytes has one first word
pub same_cut : (first word rest more : List ℕ) → HasNone 32 first → HasNone 32 word → first ++ 32 ∷ rest ≡ word ++ 32 ∷ more → (first ≡ word) × (rest ≡ more)
same_cut [] [] rest more h k e = (refl, cc)
same_cut [] (b ∷ word) rest more h k e = let space : 32 ≡ b = cc in let other = k.0 in absurd (cc)
same_cut (b ∷ first) [] rest more h k e = let space : b ≡ 32 = cc in let other = h.0 in absurd (cc)
same_cut (b ∷ first) (c ∷ word) rest more h k e =
    let tails : first ++ 32 ∷ rest ≡ word ++ 32 ∷ more = cc in
    let heads : b ≡ c = cc in
    let others = same_cut first word rest more h.1 k.1 tails in
    let words = others.0 in
    (cc, others.1)

-- bytes without a space have no word before one
pub no_first_word : (bytes word more : List ℕ) → HasNone 32 bytes → bytes ≡ word ++ 32 ∷ more → ⊥
no_first_word [] [] more h e = cc
no_first_word [] (c ∷ word) more h e = cc
no_first_word (b ∷ bytes) [] more h e = let space : b ≡ 32 = cc in let other = h.0 in cc
no_first_word (b ∷ bytes) (c ∷ word) more h e = let tails : bytes ≡ word ++ 32 ∷ more = cc in no_first_word bytes word more h.1 tails

-- the first word of the bytes is the one before the first space
pub first_word : (most n : ℕ) (bytes front rest word more : List ℕ) → IsCutAt 32 bytes front rest → IsNumeral most word n → bytes ≡ word ++ 32 ∷ more → (word ≡ front) × (more ≡ rest)
first_word most n bytes front rest word more cut is_number e = same_cut word front more rest (no_space word is_number.digits) cut.before (sym e ∙ cut.split)
