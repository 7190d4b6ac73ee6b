-- Words that are numbers.
use Rattle.std.specs.Prelude.{◌≡◌, ℕ, ◌+◌, ◌-◌, ◌*◌, ◌<◌, ◌≤◌, nat_le, Bool, true, ◌&&◌, List, ◌∷◌, ◌++◌, length, fold}
use Rattle.std.specs.List.{list_all}

-- `0` to `9`
abbrev pub is_digit : ℕ → Bool
is_digit b = nat_le 48 b && nat_le b 57

-- the number that digits stand for, in decimal
abbrev pub value_of : List ℕ → ℕ
value_of digits = fold (λ n digit. 10 * n + (digit - 48)) 0 digits

-- a word of digits, at least one and at most so many, leading zeros among them, is this number
pub record IsNumeral (most : ℕ) (word : List ℕ) (n : ℕ) : Type 0 where
  pub some : 0 < length word
  pub few : length word ≤ most
  pub digits : list_all is_digit word ≡ true
  pub value : n ≡ value_of word

-- the bytes begin with such a word and a space, and these stand behind that
pub record IsNumberBefore (most : ℕ) (bytes : List ℕ) (n : ℕ) (rest : List ℕ) : Type 0 where
  pub word : List ℕ
  pub numeral : IsNumeral most word n
  pub split : bytes ≡ word ++ 32 ∷ rest
