-- Whether a log begins with names.
use Rattle.std.specs.Prelude.{◌≡◌, ◌⊎◌, ℕ, List, [], ◌∷◌, ◌++◌, codes}

-- the line has names
abbrev pub IsLineOfNames : List ℕ → Type 0
IsLineOfNames line = (rest : List ℕ) × (line ≡ codes "unfinished names: " ++ rest)

-- one of the lines does
abbrev pub HasNames : List (List ℕ) → Type 0
HasNames [] = ⊥
HasNames (line ∷ lines) = IsLineOfNames line ⊎ HasNames lines
