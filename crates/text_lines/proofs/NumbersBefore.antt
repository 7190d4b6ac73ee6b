-- How far a number before a space reaches.
use Rattle.std.proofs.Common.{◌≡◌, ℕ, zero, suc, ◌+◌, ◌<◌, ◌≤◌, min, true, false, List, [], ◌∷◌, ◌++◌, length, get_or, take, refl, ap, subst, ◌∙◌, arith, length-append}
use Rattle.std.specs.List.{list_all}
use Rattle.std.proofs.lemmas.Bool.{and_parts}
use Rattle.text_lines.specs.Numbers.{is_digit, IsNumberBefore}

-- digits alone don't reach past the space
digits_before : (word rest : List ℕ) (k : ℕ) → list_all is_digit (take k (word ++ 32 ∷ rest)) ≡ true → k ≤ length word
digits_before [] rest zero so_far = omega arith
digits_before [] rest (suc k) so_far = absurd (cc)
digits_before (b ∷ word) rest zero so_far = omega arith
digits_before (b ∷ word) rest (suc k) so_far = omega (arith, digits_before word rest k (and_parts (is_digit b) (list_all is_digit (take k (word ++ 32 ∷ rest))) so_far).1)

-- and the first byte that is none is the space
space_there : (word rest : List ℕ) (k : ℕ) → list_all is_digit word ≡ true → k ≤ length word → is_digit (get_or (word ++ 32 ∷ rest) k 0) ≡ false
    → (k ≡ length word) × (get_or (word ++ 32 ∷ rest) k 0 ≡ 32)
space_there [] rest zero all within ended = (refl, refl)
space_there [] rest (suc k) all within ended = absurd (omega (arith, within))
space_there (b ∷ word) rest zero all within ended = let digit = (and_parts (is_digit b) (list_all is_digit word) all).0 in absurd (cc)
space_there (b ∷ word) rest (suc k) all within ended =
    let there = space_there word rest k (and_parts (is_digit b) (list_all is_digit word) all).1 (omega (arith, within)) ended in
    (ap suc there.0, there.1)

-- where the digits end, the space stands, behind at least one
pub number_ends : (most n : ℕ) (bytes rest : List ℕ) (k : ℕ) → IsNumberBefore most bytes n rest → list_all is_digit (take k bytes) ≡ true → is_digit (get_or bytes k 0) ≡ false
    → (0 < k) × (get_or bytes k 0 ≡ 32)
number_ends most n bytes rest k number so_far ended =
    let within : k ≤ length number.word = digits_before number.word rest k (subst (λ bs. list_all is_digit (take k bs) ≡ true) number.split so_far) in
    let there = space_there number.word rest k number.numeral.digits within (subst (λ bs. is_digit (get_or bs k 0) ≡ false) number.split ended) in
    (omega (arith, there.0, number.numeral.some), ap (λ bs. get_or bs k 0) number.split ∙ there.1)

-- where that many bytes, or one more than a number has, are digits, there is none
pub no_number-within : (most n : ℕ) (bytes rest : List ℕ) (k : ℕ) → min (length bytes) (most + 1) ≤ k → list_all is_digit (take k bytes) ≡ true → IsNumberBefore most bytes n rest → ⊥
no_number-within most n bytes rest k past all number =
    let within : k ≤ length number.word = digits_before number.word rest k (subst (λ bs. list_all is_digit (take k bs) ≡ true) number.split all) in
    let long : length bytes ≡ length number.word + suc (length rest) = ap length number.split ∙ length-append number.word (32 ∷ rest) in
    omega (arith, within, long, number.numeral.few, past)
