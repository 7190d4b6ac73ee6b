-- The words of a line, and which of them are numbers.
use Rattle.std.specs.Prelude.{ℕ, ◌%◌, nat_le, nat_lt, Bool, true, false, ◌==◌, ◌||◌, ◌&&◌, if◌then◌else◌, List, [], ◌∷◌, Option, Some, None, length, filter}
use Rattle.std.specs.List.{list_all}
use Rattle.text_lines.specs.Lines.{parts_of}
use Rattle.text_lines.specs.Numbers.{is_digit, value_of, IsNumeral}

-- a space or a tab
abbrev pub is_blank : ℕ → Bool
is_blank b = b == 32 || b == 9

-- a row of at least one byte
abbrev pub is_some_row : List ℕ → Bool
is_some_row [] = false
is_some_row (b ∷ bytes) = true

-- the words of a line: the rows of bytes between its blanks
abbrev pub words_of : List ℕ → List (List ℕ)
words_of line = filter is_some_row (parts_of is_blank line)

-- one to nine digits, leading zeros among them
abbrev pub is_number : List ℕ → Bool
is_number word = nat_lt 0 (length word) && nat_le (length word) 9 && list_all is_digit word

-- the word is this number
abbrev pub IsNumber : List ℕ → ℕ → Type 0
IsNumber word n = IsNumeral 9 word n

-- the number that a word is, if it is one
abbrev pub number_of : List ℕ → Option ℕ
number_of word = if is_number word then Some (value_of word) else None

-- an odd number
abbrev pub is_odd : ℕ → Bool
is_odd n = n % 2 == 1

-- the words are these numbers, in order
abbrev pub AreNumbers : List (List ℕ) → List ℕ → Type 0
AreNumbers [] [] = Unit {0}
AreNumbers [] (n ∷ numbers) = ⊥
AreNumbers (word ∷ words) [] = ⊥
AreNumbers (word ∷ words) (n ∷ numbers) = IsNumber word n × AreNumbers words numbers
