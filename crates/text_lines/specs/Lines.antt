-- The lines of a text.
use Rattle.std.specs.Prelude.{ℕ, ◌-◌, suc, Bool, ◌==◌, nat_eq, if◌then◌else◌, List, [], ◌∷◌, length, map, filter, take}
use Rattle.std.specs.List.{onto_first, ends_with}

-- the byte that ends a line
abbrev pub is_line_feed : ℕ → Bool
is_line_feed b = b == 10

-- the parts of a row of bytes, each ended by a byte that passes the test; bytes after the last such byte are a last part, if there are any
abbrev pub parts_of : (ℕ → Bool) → List ℕ → List (List ℕ)
parts_of ends [] = []
parts_of ends (b ∷ bytes) = if ends b then [] ∷ parts_of ends bytes else onto_first b (parts_of ends bytes)

-- one carriage return at the end of a line isn't part of it
abbrev pub without_return : List ℕ → List ℕ
without_return bytes = if ends_with nat_eq bytes (13 ∷ []) then take (length bytes - 1) bytes else bytes

-- the lines of a text
abbrev pub lines_of : List ℕ → List (List ℕ)
lines_of text = map without_return (parts_of is_line_feed text)

-- the lines of a text that are ended by a line feed: as many as there are line feeds
abbrev pub ended_lines : List ℕ → List (List ℕ)
ended_lines text = take (length (filter is_line_feed text)) (lines_of text)

-- a line and its number in the text
pub record NumberedLine : Type 0 where
  pub number : ℕ
  pub bytes : List ℕ

-- lines with their numbers, from a number on
abbrev pub numbered_from : ℕ → List (List ℕ) → List NumberedLine
numbered_from number [] = []
numbered_from number (bytes ∷ lines) = record { number = number; bytes = bytes } ∷ numbered_from (suc number) lines
