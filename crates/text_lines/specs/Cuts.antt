-- Where a byte stands first among others, and when bytes don't begin with others.
use Rattle.std.specs.Prelude.{◌≡◌, ◌≢◌, ℕ, ◌==◌, false, List, [], ◌∷◌, ◌++◌}

-- the byte isn't among these
abbrev pub HasNone : ℕ → List ℕ → Type 0
HasNone byte [] = Unit {0}
HasNone byte (b ∷ bytes) = ((b == byte) ≡ false) × HasNone byte bytes

-- the bytes are those before the first such byte, that byte, and those after it
pub record IsCutAt (byte : ℕ) (bytes front rest : List ℕ) : Type 0 where
  pub before : HasNone byte front
  pub split : bytes ≡ front ++ byte ∷ rest

-- the bytes don't begin with the prefix
abbrev pub LacksPrefix : List ℕ → List ℕ → Type 0
LacksPrefix prefix bytes = (rest : List ℕ) → bytes ≢ prefix ++ rest
