-- Numbers in decimal, as they are read back.
use Rattle.std.proofs.Common.{◌≡◌, ℕ, zero, suc, ◌+◌, ◌-◌, ◌*◌, ◌/◌, ◌%◌, ◌^◌, ◌<◌, ◌==◌, nat_le, Bool, true, false, cond, List, [], ◌∷◌, decimal, refl, sym, ap, ◌∙◌, arith}
use Rattle.std.specs.List.{list_all}
use Rattle.std.specs.Fmt.{digits, digits_onto, digit_glyph}
use Rattle.std.proofs.lemmas.Bool.{and_from, le-leb, cond_below}
use Rattle.std.proofs.lemmas.Fmt.{decimal_by_steps, decimal_nonempty, length-decimal-le}
use Rattle.std.proofs.lemmas.List.Sums.{fold-append}
use Rattle.text_lines.specs.Numbers.{is_digit, value_of, IsNumeral}

last_digit : (n : ℕ) → is_digit (digit_glyph false (n % 10)) ≡ true
last_digit n =
    let small : n % 10 < 10 = omega arith in
    let is : digit_glyph false (n % 10) ≡ 48 + n % 10 = sym (cond_below (n % 10) 10 _ _ small) in
    ap is_digit is ∙ and_from (nat_le 48 (48 + n % 10)) (nat_le (48 + n % 10) 57) (le-leb 48 (48 + n % 10) (omega arith)) (le-leb (48 + n % 10) 57 (omega arith))

either_digits : (b : Bool) (xs ys : List ℕ) → list_all is_digit xs ≡ true → list_all is_digit ys ≡ true → list_all is_digit (cond b xs ys) ≡ true
either_digits true xs ys first second = first
either_digits false xs ys first second = second

digits_before : (k n : ℕ) (written : List ℕ) → list_all is_digit written ≡ true → list_all is_digit (digits_onto k 10 false n written) ≡ true
digits_before zero n written all = all
digits_before (suc k) n written all =
    let digit = digit_glyph false (n % 10) in
    let more : list_all is_digit (digit ∷ written) ≡ true = and_from (is_digit digit) (list_all is_digit written) (last_digit n) all in
    either_digits (n / 10 == 0) (digit ∷ written) (digits_onto k 10 false (n / 10) (digit ∷ written)) more (digits_before k (n / 10) (digit ∷ written) more)

-- a number is written in digits
pub decimal_digits : (n : ℕ) → list_all is_digit (decimal n) ≡ true
unfolding digits
decimal_digits n = digits_before 64 n [] refl

-- of which it is the value
decimal_value : (n : ℕ) → n < 2 ^ 64 → value_of (decimal n) ≡ n
decimal_value n small =
    decimal_by_steps (λ m written. value_of written ≡ m) (λ m one. omega arith)
    (λ m written more is. omega (arith, is, fold-append (λ k digit. 10 * k + (digit - 48)) 0 written ((48 + m % 10) ∷ []))) n small

-- so it is a numeral, of as many digits as it may have
pub decimal_numeral : (most n : ℕ) → 0 < most → n < 10 ^ most → n < 2 ^ 64 → IsNumeral most (decimal n) n
decimal_numeral most n some few small = record {
  some = decimal_nonempty n small;
  few = length-decimal-le most n some few small;
  digits = decimal_digits n;
  value = sym (decimal_value n small);
}
