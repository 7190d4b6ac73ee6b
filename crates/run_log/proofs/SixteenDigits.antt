-- The digits of a plan and its shop are 16 hexadecimal digits each.
use Rattle.std.proofs.Common.{◌≡◌, ℕ, zero, suc, ◌/◌, ◌%◌, ◌^◌, ◌<◌, ◌&&◌, Bool, true, inl, inr, List, [], ◌∷◌, length, take, slice_index, refl, arith}
use Rattle.std.specs.Int.{w32, to_be_bytes}
use Rattle.std.specs.List.{All, list_all}
use Rattle.std.proofs.lemmas.Bool.{and_parts, cases_lt}
use Rattle.std.proofs.lemmas.List.{length-take-le}
use Rattle.std.proofs.lemmas.List.Elements.{All-append, All-cons, All-head, All-nil, All-tail, All-take}
use Rattle.sha2.specs.Sha256.{digest_bytes, final_hash, initial_hash_256, sha256}
use Rattle.sha2.proofs.Facts256.{length-sha256}
use Rattle.hex.specs.Hex.{encode_with, lower_digits}
use Rattle.hex.proofs.HexLemmas.{length-encode_with}
use Rattle.shop_base.specs.Shop.{JobShop}
use Rattle.shop_base.specs.Plan.{ShopPlan}
use Rattle.orlib_read.specs.Lines.{instance_lines}
use Rattle.plan_text.specs.Lines.{plan_lines}
use Rattle.event_lines.specs.RunDigits.{is_small_hex, AreSixteen, AreDigits}
use Rattle.run_log.specs.Digits.{first_digits, digits_of}

-- ---- a digest has bytes

abbrev IsByte : ℕ → Type 0
IsByte b = b < 256

below : (n : ℕ) → n % 256 < 256
below n = omega arith

of_one : (a : ℕ) (bytes : List ℕ) → All IsByte bytes → All IsByte (a % 256 ∷ bytes)
of_one a bytes are = All-cons IsByte (a % 256) bytes (below a) are

word_are_bytes : (n : ℕ) → All IsByte (to_be_bytes w32 n)
word_are_bytes n =
    let first = of_one n [] (All-nil IsByte) in
    let second = of_one (n / 256 ^ 1) (n % 256 ∷ []) first in
    let third = of_one (n / 256 ^ 2) (n / 256 ^ 1 % 256 ∷ n % 256 ∷ []) second in
    of_one (n / 256 ^ 3) (n / 256 ^ 2 % 256 ∷ n / 256 ^ 1 % 256 ∷ n % 256 ∷ []) third

digest_are_bytes : (h : List ℕ) (n : ℕ) → All IsByte (digest_bytes h n)
unfolding digest_bytes
digest_are_bytes h zero = All-nil IsByte
digest_are_bytes h (suc n) = All-append IsByte (digest_bytes h n) (to_be_bytes w32 (slice_index h n)) (digest_are_bytes h n) (word_are_bytes (slice_index h n))

sha_are_bytes : (text : List ℕ) → All IsByte (sha256 text)
unfolding sha256
sha_are_bytes text = digest_are_bytes (final_hash initial_hash_256 text) 8

-- ---- what is encoded has no other digits

-- the first n digits of the table are of that kind
abbrev all_small : ℕ → Bool
all_small zero = true
all_small (suc n) = is_small_hex (slice_index lower_digits n) && all_small n

small_below : (n k : ℕ) → all_small n ≡ true → k < n → is_small_hex (slice_index lower_digits k) ≡ true
small_below zero k all below = absurd (omega arith)
small_below (suc n) k all below =
    let parts = and_parts (is_small_hex (slice_index lower_digits n)) (all_small n) all in
    elim (cases_lt k n) [
      | inl lower ↦ small_below n k parts.1 lower
      | inr last ↦ let same : k ≡ n = omega arith in rw same parts.0
    ]

small : (k : ℕ) → k < 16 → is_small_hex (slice_index lower_digits k) ≡ true
small k below = small_below 16 k refl below

encoded_small : (bytes : List ℕ) → All IsByte bytes → list_all is_small_hex (encode_with lower_digits bytes) ≡ true
unfolding encode_with
encoded_small [] are = refl
encoded_small (b ∷ bytes) are =
    let fits : b < 256 = All-head IsByte b bytes are in
    let high : is_small_hex (slice_index lower_digits (b / 16)) ≡ true = small (b / 16) (omega arith) in
    let low : is_small_hex (slice_index lower_digits (b % 16)) ≡ true = small (b % 16) (omega arith) in
    let rest : list_all is_small_hex (encode_with lower_digits bytes) ≡ true = encoded_small bytes (All-tail IsByte b bytes are) in
    rw (high, low, rest) refl

-- ---- the digits of a plan and its shop

pub sixteen : (text : List ℕ) → AreSixteen (first_digits text)
sixteen text =
    let eight : length (take 8 (sha256 text)) ≡ 8 = length-take-le 8 (sha256 text) (omega (arith, length-sha256 text)) in
    let twice = length-encode_with lower_digits (take 8 (sha256 text)) in
    let small_all = encoded_small (take 8 (sha256 text)) (All-take IsByte 8 (sha256 text) (sha_are_bytes text)) in
    (omega (arith, eight, twice), small_all)

pub digits_are : (shop : JobShop) (plan : ShopPlan) → AreDigits (digits_of shop plan)
digits_are shop plan = (sixteen (plan_lines plan), sixteen (instance_lines [] shop))
