-- Texts of several parts.
use Rattle.std.specs.Prelude.{◌≡◌, ℕ, zero, suc, ◌+◌, List, [], ◌++◌}

-- a text of which One holds, and behind it one of which Other holds
pub record AreBoth (One Other : List ℕ → Type 0) (text : List ℕ) : Type 0 where
  pub first : List ℕ
  pub is : One first
  pub behind : List ℕ
  pub are : Other behind
  pub both : text ≡ first ++ behind

-- the texts of the numbers from one on up to another, one after another
pub data AreTextsFrom (Is : ℕ → List ℕ → Type 0) (first : ℕ) : ℕ → List ℕ → Type 0 where
  no_text : AreTextsFrom Is first first []
  next_text : (n : ℕ) (text more : List ℕ) → AreTextsFrom Is first n text → Is n more → AreTextsFrom Is first (n + 1) (text ++ more)

-- the texts of the first n numbers, one after another
abbrev pub texts_below : (ℕ → List ℕ) → ℕ → List ℕ
texts_below of zero = []
texts_below of (suc n) = texts_below of n ++ of n
