-- The lines of an output that a log gets.
use Rattle.std.specs.Prelude.{ℕ, ◌||◌, ◌==◌, nat_eq, if◌then◌else◌, Bool, List, [], ◌∷◌, codes}
use Rattle.std.specs.List.{starts_with, onto_first, flat_map}

-- a log gets the lines of reports, of orders, and of reports that were late, and empty lines, and no others
abbrev pub is_logged : List ℕ → Bool
is_logged line = starts_with nat_eq line (codes "report ")
    || starts_with nat_eq line (codes "order ")
    || starts_with nat_eq line (codes "late ")
    || starts_with nat_eq line (10 ∷ [])

-- what it gets of a line
abbrev pub logged_line : List ℕ → List ℕ
logged_line line = if is_logged line then line else []

-- the lines of a text, each with the line feed that ends it; of the last one it may be missing
abbrev pub fed_lines : List ℕ → List (List ℕ)
fed_lines [] = []
fed_lines (b ∷ bytes) = if b == 10 then (b ∷ []) ∷ fed_lines bytes else onto_first b (fed_lines bytes)

-- what a log gets of a text
abbrev pub logged : List ℕ → List ℕ
logged text = flat_map logged_line (fed_lines text)
