-- The words of moments are ASCII.
use Rattle.std.proofs.Common.{ℕ, zero, suc, ◌+◌, ◌/◌, ◌%◌, ◌<◌, ◌==◌, nat_lt, Bool, true, false, if◌then◌else◌, List, [], ◌∷◌, ◌++◌, Option, None, Some, decimal, arith}
use Rattle.std.specs.Str.{IsAscii}
use Rattle.std.specs.Fmt.{digit_glyph, digits_onto, digits}
use Rattle.std.proofs.lemmas.Str.{IsAscii-append}
use Rattle.std.proofs.lemmas.Str.Ascii.{IsAscii-nil, IsAscii-cons}
use Rattle.people_names.specs.declared.clock.Clock.{Clock}
use Rattle.people_names.specs.declared.clock.Clock.TheVariants.{Minutes, Seconds}
use Rattle.people_names.specs.Words.{two_digits, hour_and_minute, day_words, moment_by}

glyph_ascii : (d : ℕ) → d < 10 → digit_glyph false d < 128
glyph_ascii d below = go (nat_lt d 10)
  where
    go : (yes : Bool) → (if yes then 48 + d else 87 + d) < 128
    go true = omega (arith, below)
    go false = omega (arith, below)

digit_ascii : (n : ℕ) (acc : List ℕ) → IsAscii acc → IsAscii (digit_glyph false (n % 10) ∷ acc)
digit_ascii n acc is = IsAscii-cons (digit_glyph false (n % 10)) acc (glyph_ascii (n % 10) (omega arith)) is

either_ascii : (yes : Bool) (one other : List ℕ) → IsAscii one → IsAscii other → IsAscii (if yes then one else other)
either_ascii true one other is are = is
either_ascii false one other is are = are

digits_ascii : (k n : ℕ) (acc : List ℕ) → IsAscii acc → IsAscii (digits_onto k 10 false n acc)
digits_ascii zero n acc is = is
digits_ascii (suc k) n acc is =
    let more = digit_glyph false (n % 10) ∷ acc in
    either_ascii (n / 10 == 0) more (digits_onto k 10 false (n / 10) more) (digit_ascii n acc is) (digits_ascii k (n / 10) more (digit_ascii n acc is))

decimal_ascii : (n : ℕ) → IsAscii (decimal n)
unfolding digits
decimal_ascii n = digits_ascii 64 n [] IsAscii-nil

digits_two : (n : ℕ) → n / 10 < 80 → IsAscii (two_digits n)
digits_two n small =
    IsAscii-cons (48 + n / 10) ((48 + n % 10) ∷ []) (omega (arith, small)) (IsAscii-cons (48 + n % 10) [] (omega arith) IsAscii-nil)

hour_ascii : (minutes : ℕ) → IsAscii (hour_and_minute minutes)
hour_ascii minutes =
    IsAscii-append (two_digits (minutes / 60 % 24)) (58 ∷ two_digits (minutes % 60)) (digits_two (minutes / 60 % 24) (omega arith))
    (IsAscii-cons 58 (two_digits (minutes % 60)) (omega arith) (digits_two (minutes % 60) (omega arith)))

days_ascii : (days : ℕ) → IsAscii (day_words days)
days_ascii zero = IsAscii-nil
days_ascii (suc d) = IsAscii-cons 43 (decimal (suc d)) (omega arith) (decimal_ascii (suc d))

pub moment_ascii : (clock : Option Clock) (t : ℕ) → IsAscii (moment_by clock t)
moment_ascii None t = decimal_ascii t
moment_ascii (Some (Minutes begin)) t = IsAscii-append (hour_and_minute (begin + t)) (day_words ((begin + t) / 1440)) (hour_ascii (begin + t)) (days_ascii ((begin + t) / 1440))
moment_ascii (Some (Seconds begin)) t =
    let seconds = begin + t in
    IsAscii-append (hour_and_minute (seconds / 60) ++ 58 ∷ two_digits (seconds % 60)) (day_words (seconds / 86400))
    (IsAscii-append (hour_and_minute (seconds / 60)) (58 ∷ two_digits (seconds % 60)) (hour_ascii (seconds / 60))
    (IsAscii-cons 58 (two_digits (seconds % 60)) (omega arith) (digits_two (seconds % 60) (omega arith))))
    (days_ascii (seconds / 86400))
