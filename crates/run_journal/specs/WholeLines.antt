-- The whole lines of a text, with what ends them.
use Rattle.std.specs.Prelude.{ℕ, List, [], ◌∷◌, if◌then◌else◌, ◌==◌, length, drop}

-- this byte before bytes, if there are any
abbrev pub before_any : ℕ → List ℕ → List ℕ
before_any b [] = []
before_any b (x ∷ xs) = b ∷ x ∷ xs

-- a text up to its last line feed
abbrev pub whole_lines : List ℕ → List ℕ
whole_lines [] = []
whole_lines (b ∷ bytes) = if b == 10 then b ∷ whole_lines bytes else before_any b (whole_lines bytes)

-- what stands behind its last line feed
abbrev pub torn_end : List ℕ → List ℕ
torn_end text = drop (length (whole_lines text)) text
