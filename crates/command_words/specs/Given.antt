-- What is given with an argument, and the numbers that its words are.
use Rattle.std.specs.Prelude.{ℕ, nat_le, nat_lt, ◌&&◌, Bool, List, [], length, unwrap_or}
use Rattle.std.specs.List.{list_all}
use Rattle.text_lines.specs.Numbers.{is_digit, value_of}
use Rattle.clap.specs.Words.{Row, Text, all_of}
use Rattle.command_words.specs.CommandLine.{latest_moment}

-- the values of an argument; none where it was not used
abbrev pub values_of : Text → List Row → List Text
values_of name rows = unwrap_or (all_of name rows) []

-- a number of 1 to 13 digits, up to the latest moment
abbrev pub is_moment : Text → Bool
is_moment word = (nat_lt 0 (length word) && nat_le (length word) 13) && (list_all is_digit word && nat_le (value_of word) latest_moment)

-- a number of so many digits at most, from the least to the most
abbrev pub is_number : ℕ → ℕ → ℕ → Text → Bool
is_number digits least most word = (nat_lt 0 (length word) && nat_le (length word) digits) && (list_all is_digit word && (nat_le least (value_of word) && nat_le (value_of word) most))

-- a number of 1 to 9 digits
abbrev pub is_short : Text → Bool
is_short = is_number 9 0 999999999
