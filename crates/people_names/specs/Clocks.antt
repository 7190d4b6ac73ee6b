-- What a text says of the clock.
use Rattle.std.specs.Prelude.{ℕ, ◌+◌, ◌-◌, ◌*◌, ◌==◌, nat_lt, Bool, ◌&&◌, if◌then◌else◌, List, length, slice_index, Option, None, Some}
use Rattle.text_lines.specs.Numbers.{is_digit}
use Rattle.people_names.specs.declared.clock.Clock.{Clock}
use Rattle.people_names.specs.declared.clock.Clock.TheVariants.{Minutes, Seconds}

-- two digits are at this place
abbrev pub is_digit_pair : List ℕ → ℕ → Bool
is_digit_pair text place = is_digit (slice_index text place) && is_digit (slice_index text (place + 1))

-- the number that they are
abbrev pub clock_number_at : List ℕ → ℕ → ℕ
clock_number_at text place = 10 * (slice_index text place - 48) + (slice_index text (place + 1) - 48)

-- two digits are at this place, of a number below the limit
abbrev pub is_pair_below : List ℕ → ℕ → ℕ → Bool
is_pair_below text place limit = is_digit_pair text place && nat_lt (clock_number_at text place) limit

-- `HH:MM` is at the front
abbrev pub is_hour_and_minute : List ℕ → Bool
is_hour_and_minute text = is_pair_below text 0 24 && (slice_index text 2 == 58) && is_pair_below text 3 60

-- the text is `HH:MM`
abbrev pub is_minute_text : List ℕ → Bool
is_minute_text text = (length text == 5) && is_hour_and_minute text

-- the text is `HH:MM:SS`
abbrev pub is_second_text : List ℕ → Bool
is_second_text text = (length text == 8) && is_hour_and_minute text && (slice_index text 5 == 58) && is_pair_below text 6 60

-- the minutes from midnight to `HH:MM`
abbrev pub minutes_at : List ℕ → ℕ
minutes_at text = 60 * clock_number_at text 0 + clock_number_at text 3

-- the clock that a text states
abbrev pub clock_of : List ℕ → Option Clock
clock_of text =
    if is_minute_text text then Some (Minutes (minutes_at text))
    else (if is_second_text text then Some (Seconds (60 * minutes_at text + clock_number_at text 6)) else None)
