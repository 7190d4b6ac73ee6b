-- What a call adds to a text.
use Rattle.std.specs.Prelude.{◌≡◌, ℕ, List, ◌++◌}

-- the new text is the old one, and behind it one of which P holds
abbrev pub Adds : (List ℕ → Type 0) → List ℕ → List ℕ → Type 0
Adds P old new = (added : List ℕ) × P added × (new ≡ old ++ added)
