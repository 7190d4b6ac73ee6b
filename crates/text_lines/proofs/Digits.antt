-- Numbers of few digits are small.
use Rattle.std.proofs.Common.{◌≡◌, ℕ, ◌+◌, ◌*◌, ◌^◌, ◌<◌, ◌≤◌, true, nat_le, ap, arith}
use Rattle.std.proofs.Math.Nat.{pow-le-pow_right}
use Rattle.std.proofs.lemmas.Bool.{leb-true, and_parts}
use Rattle.std.proofs.lemmas.Nat.{pow-add}
use Rattle.text_lines.specs.Numbers.{is_digit}

pub digit_bounds : (b : ℕ) → is_digit b ≡ true → (48 ≤ b) × (b ≤ 57)
digit_bounds b h = let p = and_parts (nat_le 48 b) (nat_le b 57) h in (leb-true 48 b p.0, leb-true b 57 p.1)

-- a digit more, of at most 19
pub more_digits : (value i digit : ℕ) → value < 10 ^ i → i < 19 → digit ≤ 9 → (10 * value + digit < 10 ^ (i + 1)) × (10 * value + digit < 2 ^ 64)
more_digits value i digit below few is_digit =
    let power : 10 ^ (1 + i) ≡ 10 ^ 1 * 10 ^ i = pow-add 10 1 i in
    let same : 10 ^ (i + 1) ≡ 10 ^ (1 + i) = ap (λ (n : ℕ). 10 ^ n) (omega arith) in
    let some : 0 < 10 = omega arith in
    let at_most : i ≤ 18 = omega arith in
    let up : 10 ^ i ≤ 10 ^ 18 = pow-le-pow_right some at_most in
    (omega arith, omega arith)

pub fewer_digits : (value i most : ℕ) → value < 10 ^ i → i ≤ most → value < 10 ^ most
fewer_digits value i most below few = let up : 10 ^ i ≤ 10 ^ most = pow-le-pow_right (omega arith) few in omega arith
