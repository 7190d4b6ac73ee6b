-- A text in parts.
use Rattle.std.specs.Prelude.{ℕ, List, [], ◌∷◌, ◌++◌}

-- these parts, one after another, before what follows them
abbrev pub before : List (List ℕ) → List ℕ → List ℕ
before [] rest = rest
before (part ∷ parts) rest = part ++ before parts rest
