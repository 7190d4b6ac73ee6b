-- Where a byte stands first, or last, from a search for it.
use Rattle.std.proofs.Common.{◌≡◌, ℕ, zero, suc, ◌+◌, ◌-◌, ◌<◌, ◌≤◌, true, List, [], ◌∷◌, ◌++◌, Some, None, length, get_or, take, drop, sym, ap, ◌∙◌, arith, add-one, drop-cons, take-append-drop, length-drop, eqb}
use Rattle.std.specs.Prelude.{position, not, ◌==◌}
use Rattle.std.specs.List.{prefix_len}
use Rattle.std.proofs.lemmas.Bool.{false_from_ne_true, eqb-true, false≢true}
use Rattle.std.proofs.lemmas.Grind.{common_steps}
use Rattle.std.proofs.lemmas.List.Sums.{prefix_len_passes}
use Rattle.std.proofs.lemmas.List.Quantifiers.{position-Some}
use Rattle.std.proofs.lemmas.List.{take_more, take_rest, get_or-drop}
use Rattle.memchr.specs.Find.{IsFirstByte, IsLastByte, is_byte}
use Rattle.text_lines.specs.Cuts.{HasNone, IsCutAt}

none_before : (byte : ℕ) (bytes : List ℕ) (k : ℕ) → ((j : ℕ) → j < k → eqb (get_or bytes j 0) byte ≡ true → ⊥) → HasNone byte (take k bytes)
none_before byte [] zero nowhere = tt
none_before byte [] (suc k) nowhere = tt
none_before byte (b ∷ bytes) zero nowhere = tt
none_before byte (b ∷ bytes) (suc k) nowhere =
    (false_from_ne_true (eqb b byte) (nowhere 0 (omega arith)), none_before byte bytes k (λ j below. nowhere (suc j) (omega arith)))

none_at_all : (byte : ℕ) (bytes : List ℕ) → ((j : ℕ) → j < length bytes → eqb (get_or bytes j 0) byte ≡ true → ⊥) → HasNone byte bytes
none_at_all byte [] nowhere = tt
none_at_all byte (b ∷ bytes) nowhere =
    (false_from_ne_true (eqb b byte) (nowhere 0 (omega arith)), none_at_all byte bytes (λ j below. nowhere (suc j) (omega arith)))

pub HasNone-from_search : (byte : ℕ) (bytes : List ℕ) → IsFirstByte (is_byte byte) bytes None → HasNone byte bytes
HasNone-from_search byte bytes h = none_at_all byte bytes (λ j below. h j (omega arith) below)

-- the byte stands at a place, and at none before
cut_here : (byte : ℕ) (bytes : List ℕ) (k : ℕ) → k < length bytes → get_or bytes k 0 ≡ byte → ((j : ℕ) → j < k → eqb (get_or bytes j 0) byte ≡ true → ⊥)
    → IsCutAt byte bytes (take k bytes) (take (length bytes - (k + 1)) (drop (k + 1) bytes))
cut_here byte bytes k inside here nowhere =
    let at : drop k bytes ≡ byte ∷ drop (suc k) bytes = drop-cons bytes k 0 inside ∙ ap (λ b. b ∷ drop (suc k) bytes) here in
    let rest : drop (suc k) bytes ≡ take (length bytes - (k + 1)) (drop (k + 1) bytes) = ap (λ (n : ℕ). drop n bytes) (sym (add-one k)) ∙ sym (take_rest bytes (k + 1)) in
    record {
      before = none_before byte bytes k nowhere;
      split = sym (take-append-drop k bytes) ∙ ap (λ l. take k bytes ++ l) (at ∙ ap (λ l. byte ∷ l) rest);
    }

pub IsCutAt-from_search : (byte : ℕ) (bytes : List ℕ) (k : ℕ) → IsFirstByte (is_byte byte) bytes (Some k)
    → IsCutAt byte bytes (take k bytes) (take (length bytes - (k + 1)) (drop (k + 1) bytes))
IsCutAt-from_search byte bytes k h = cut_here byte bytes k h.0.high (eqb-true (get_or bytes k 0) byte h.1) (λ j below. h.0.before j (omega arith) below)

pub IsCutAt-from_position : (byte : ℕ) (bytes : List ℕ) (k : ℕ) → position (λ b. b == byte) bytes ≡ Some k
    → IsCutAt byte bytes (take k bytes) (take (length bytes - (k + 1)) (drop (k + 1) bytes))
IsCutAt-from_position byte bytes k found =
    let first = position-Some (λ b. b == byte) bytes k 0 found in
    cut_here byte bytes k first.0 (eqb-true (get_or bytes k 0) byte first.1) (λ j below passes. false≢true (sym (first.2 j below) ∙ passes))

pub HasNone-from_position : (byte : ℕ) (bytes : List ℕ) → position (λ b. b == byte) bytes ≡ None → HasNone byte bytes
HasNone-from_position byte bytes nowhere =
    let long : length bytes ≤ prefix_len (λ b. not (b == byte)) bytes = grind (arith, common_steps) in
    none_at_all byte bytes (λ j below passes.
    false≢true (sym (ap not passes) ∙ prefix_len_passes (λ b. not (b == byte)) bytes j 0 (omega (arith, long, below))))

-- the byte stands at a place, and at none behind it
pub last-from_search : (byte : ℕ) (bytes : List ℕ) (k : ℕ) → IsLastByte (is_byte byte) bytes (Some k)
    → (bytes ≡ take k bytes ++ byte ∷ drop (k + 1) bytes) × HasNone byte (drop (k + 1) bytes)
last-from_search byte bytes k h = (
  sym (take-append-drop k bytes) ∙ ap (λ l. take k bytes ++ l) (drop-cons bytes k 0 h.0.high ∙ ap (λ b. b ∷ drop (suc k) bytes) (eqb-true (get_or bytes k 0) byte h.1)) ∙ ap (λ n. take k bytes ++ byte ∷ drop n bytes) (sym (add-one k)),
  none_at_all byte (drop (k + 1) bytes) (λ j below passes.
      h.0.after (k + 1 + j) (omega arith) (omega (arith, below, length-drop (k + 1) bytes, h.0.high)) (ap (λ b. eqb b byte) (sym (get_or-drop (k + 1) bytes j 0)) ∙ passes)),
)

-- up to there the bytes are those before it, and it
pub part-from_search : (byte : ℕ) (bytes : List ℕ) (k : ℕ) → IsLastByte (is_byte byte) bytes (Some k) → take (k + 1) bytes ≡ take k bytes ++ byte ∷ []
part-from_search byte bytes k h = take_more bytes k 0 h.0.high ∙ ap (λ b. take k bytes ++ b ∷ []) (eqb-true (get_or bytes k 0) byte h.1)

pub HasNone-from_last : (byte : ℕ) (bytes : List ℕ) → IsLastByte (is_byte byte) bytes None → HasNone byte bytes
HasNone-from_last byte bytes h = none_at_all byte bytes (λ j below. h j (omega arith) below)
