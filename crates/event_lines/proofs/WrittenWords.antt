-- Lines that are written word by word, as they are read back.
use Rattle.std.proofs.Common.{◌≡◌, ℕ, zero, suc, ◌-◌, ◌<◌, ◌≤◌, nat_eq, nat_lt, true, false, List, [], ◌∷◌, ◌++◌, length, drop, decimal, refl, sym, ap, ◌∙◌, arith, subst, append_assoc, append-nil}
use Rattle.std.specs.List.{list_all, ends_with}
use Rattle.std.proofs.lemmas.Bool.{and_from, and_parts, and_left, ne_eqb, eq-eqb, lt-ltb, ltb-true, false≢true}
use lib.Pointwise.{pointwise}
use Rattle.text_lines.specs.Numbers.{is_digit}
use Rattle.text_lines.specs.Cuts.{HasNone}
use Rattle.text_lines.specs.Lines.{without_return, lines_of}
use Rattle.text_lines.proofs.Digits.{digit_bounds}
use Rattle.text_lines.proofs.NextLines.{first_line}
use Rattle.event_lines.specs.Words.{Word, Text, Number, JobStep, written, words_before, line_of, IsRead, IsReadAs}
use Rattle.event_lines.specs.FirstWords.{IsFirst}
use Rattle.event_lines.specs.ReadBack.{IsSpaceless, IsFitting, AreFitting, WhatIsWrittenIsRead, NumberedLinesAreLines}
use Rattle.event_lines.proofs.WordByWord.{words_first, alone, before}
use Rattle.text_lines.proofs.WrittenNumbers.{decimal_digits, decimal_numeral}

digits_spaceless : (word : List ℕ) → list_all is_digit word ≡ true → IsSpaceless word
digits_spaceless [] all = refl
digits_spaceless (b ∷ word) all =
    let parts = and_parts (is_digit b) (list_all is_digit word) all in
    let bounds = digit_bounds b parts.0 in
    and_from (nat_lt 32 b) (list_all (λ c. nat_lt 32 c) word) (lt-ltb 32 b (omega (arith, bounds.0))) (digits_spaceless word parts.1)

pub decimal_spaceless : (n : ℕ) → IsSpaceless (decimal n)
decimal_spaceless n = digits_spaceless (decimal n) (decimal_digits n)

both_spaceless : (front back : List ℕ) → IsSpaceless front → IsSpaceless back → IsSpaceless (front ++ back)
both_spaceless [] back first second = second
both_spaceless (b ∷ front) back first second =
    let parts = and_parts (nat_lt 32 b) (list_all (λ c. nat_lt 32 c) front) first in
    and_from (nat_lt 32 b) (list_all (λ c. nat_lt 32 c) (front ++ back)) parts.0 (both_spaceless front back parts.1 second)

pub step_spaceless : (job step : ℕ) → IsSpaceless (written (JobStep job step))
step_spaceless job step = both_spaceless (decimal job) (46 ∷ decimal step) (decimal_spaceless job) (decimal_spaceless step)

-- no word that is written has a space
abbrev pub AreSpaceless : List Word → Type 0
AreSpaceless [] = Unit {0}
AreSpaceless (word ∷ words) = IsSpaceless (written word) × AreSpaceless words

spaceless : (word : Word) → IsFitting word → IsSpaceless (written word)
spaceless (Text text) fits = fits
spaceless (Number most n) fits = decimal_spaceless n
spaceless (JobStep job step) fits = step_spaceless job step

pub all_spaceless : (words : List Word) → AreFitting words → AreSpaceless words
all_spaceless [] fit = tt
all_spaceless (word ∷ words) fit = (spaceless word fit.0, all_spaceless words fit.1)

-- ---- bytes that aren't in a line

pub absent_from_word : (byte : ℕ) (word : List ℕ) → byte ≤ 32 → IsSpaceless word → HasNone byte word
absent_from_word byte [] low is_word = tt
absent_from_word byte (b ∷ word) low is_word =
    let parts = and_parts (nat_lt 32 b) (list_all (λ c. nat_lt 32 c) word) is_word in
    (ne_eqb b byte (λ same. omega (arith, same, low, ltb-true 32 b parts.0)), absent_from_word byte word low parts.1)

pub absent_from_both : (byte : ℕ) (front back : List ℕ) → HasNone byte front → HasNone byte back → HasNone byte (front ++ back)
absent_from_both byte [] back first second = second
absent_from_both byte (b ∷ front) back first second = (first.0, absent_from_both byte front back first.1 second)

pub absent_from_words : (byte : ℕ) (words : List Word) → byte < 32 → AreSpaceless words → HasNone byte (words_before words [])
absent_from_words byte [] low are = tt
absent_from_words byte (word ∷ []) low are = absent_from_both byte (written word) [] (absent_from_word byte (written word) (omega (arith, low)) are.0) tt
absent_from_words byte (word ∷ next ∷ words) low are =
    absent_from_both byte (written word) (32 ∷ words_before (next ∷ words) []) (absent_from_word byte (written word) (omega (arith, low)) are.0)
    (ne_eqb 32 byte (λ same. omega (arith, same, low)), absent_from_words byte (next ∷ words) low are.1)

absent_behind : (byte k : ℕ) (line : List ℕ) → HasNone byte line → HasNone byte (drop k line)
absent_behind byte zero line none = none
absent_behind byte (suc k) [] none = tt
absent_behind byte (suc k) (b ∷ line) none = absent_behind byte k line none.1

not_alone : (line : List ℕ) → HasNone 13 line → pointwise nat_eq (13 ∷ []) line ≡ false
not_alone [] none = refl
not_alone (b ∷ line) none = and_left (nat_eq 13 b) (pointwise nat_eq [] line) (ne_eqb 13 b (λ same. false≢true (sym none.0 ∙ eq-eqb b 13 (sym same))))

-- no carriage return is removed
unreturned : (line : List ℕ) → HasNone 13 line → without_return line ≡ line
unreturned line none =
    let other : ends_with nat_eq line (13 ∷ []) ≡ false = not_alone (drop (length line - 1) line) (absent_behind 13 (length line - 1) line none) in
    rw other refl

-- ---- the line that is read

-- words before a text, and what stands behind that
pub before-append : (words : List Word) (text more : List ℕ) → words_before words (text ++ more) ≡ words_before words text ++ more
before-append [] text more = refl
before-append (word ∷ []) text more = sym (append_assoc (written word) text more)
before-append (word ∷ next ∷ words) text more =
    ap (λ (l : List ℕ). written word ++ 32 ∷ l) (before-append (next ∷ words) text more) ∙ sym (append_assoc (written word) (32 ∷ words_before (next ∷ words) text) more)

pub line_first : (words : List Word) (rest : List ℕ) → AreSpaceless words → lines_of (line_of words ++ rest) ≡ words_before words [] ∷ lines_of rest
line_first words rest are =
    let line = words_before words [] in
    first_line (line_of words ++ rest) line rest (record {
      before = absent_from_words 10 words (omega arith) are;
      split = sym (before-append words (10 ∷ []) rest) ∙ before-append words [] (10 ∷ rest);
    })
    ∙ ap (λ (first : List ℕ). first ∷ lines_of rest) (unreturned line (absent_from_words 13 words (omega arith) are))

reads : (word : Word) → IsFitting word → IsRead (written word) word
reads (Text text) fits = refl
reads (Number most n) fits = decimal_numeral most n fits.0 fits.1 fits.2
reads (JobStep job step) fits = record {
  front = decimal job;
  back = decimal step;
  split = refl;
  is_job = decimal_numeral 9 job (omega arith) fits.0 (omega (arith, fits.0));
  is_step = decimal_numeral 9 step (omega arith) fits.1 (omega (arith, fits.1));
}

pub read_back : (word : Word) (words : List Word) → AreFitting (word ∷ words) → IsReadAs (words_before (word ∷ words) []) (word ∷ words)
read_back word [] fit =
    let no_space = absent_from_word 32 (written word) (omega arith) (spaceless word fit.0) in
    subst (λ (l : List ℕ). IsReadAs l (word ∷ [])) (sym (append-nil (written word))) (alone (written word) word no_space (reads word fit.0))
read_back word (next ∷ words) fit =
    let line = words_before (word ∷ next ∷ words) [] in
    let rest = words_before (next ∷ words) [] in
    let no_space = absent_from_word 32 (written word) (omega arith) (spaceless word fit.0) in
    let first : IsFirst line word rest = record { front = written word; is_read = reads word fit.0; split = words_first line (written word) rest (record { before = no_space; split = refl }) } in
    before (next ∷ words) first (read_back next words fit.1)

pub what_is_written_is_read : WhatIsWrittenIsRead
what_is_written_is_read word words rest fit = record {
  line = words_before (word ∷ words) [];
  lines = line_first (word ∷ words) rest (all_spaceless (word ∷ words) fit);
  is = read_back word words fit;
}

pub numbered_lines_are_lines : NumberedLinesAreLines
numbered_lines_are_lines cell word words = append_assoc (decimal cell) (32 ∷ []) (line_of (word ∷ words))
