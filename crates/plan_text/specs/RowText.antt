-- The text of a fault's row.
use Rattle.std.specs.Prelude.{ℕ, List, [], ◌++◌, codes, decimal, Option, None, Some}

-- a row as it stands in a fault's text, which is left out where there is none
abbrev pub row_text : Option ℕ → List ℕ
row_text None = []
row_text (Some row) = codes " row " ++ decimal row
