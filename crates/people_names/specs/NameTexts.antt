-- Which texts are names.
use Rattle.std.specs.Prelude.{ℕ, ◌==◌, nat_lt, nat_le, Bool, not, ◌&&◌, ◌||◌, List, length, codes}
use Rattle.std.specs.List.{list_all}
use Rattle.std.specs.Char.{is_control}
use Rattle.std.specs.Str.{bytes_eq, chars}
use Rattle.text_lines.specs.Numbers.{is_digit}
use Rattle.people_names.specs.declared.names.TheConstants.{LONGEST_NAME}

-- no control character (Unicode's Cc), no blank, and none of those that XML 1.0 excludes
abbrev pub is_name_char : ℕ → Bool
is_name_char c = not (is_control c) && not (c == 32) && not (c == 0xFFFE) && not (c == 0xFFFF)

-- the words that stand where a name does: `to out`, `or fewer`
abbrev pub is_word_of_lines : List ℕ → Bool
is_word_of_lines text = bytes_eq text (codes "out") || bytes_eq text (codes "or") || bytes_eq text (codes "fewer")

-- a name: 1 to 40 bytes of such characters, none of these words, and no number
abbrev pub is_name : List ℕ → Bool
is_name text = nat_lt 0 (length text) && nat_le (length text) LONGEST_NAME && list_all is_name_char (chars text) && not (is_word_of_lines text) && not (list_all is_digit text)
