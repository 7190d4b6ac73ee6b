-- Arrays of whole numbers in a TOML table.
use Rattle.std.specs.Prelude.{◌≡◌, ℕ, ◌<◌, pos, List, [], ◌∷◌, Option, Some}
use Rattle.toml.specs.Data.{Data, integer, array, Items, no_items, item}
use Rattle.plan_text.specs.declared.keys.PlanKey.{PlanKey}
use Rattle.plan_text.specs.declared.keys.PlanKey.TheVariants.{Order}
use Rattle.plan_text.specs.Keys.{number_limit}

-- the items are these, one by one
abbrev pub AreEach : {A : Type 0} → (Data → A → Type 0) → Items → List A → Type 0
AreEach Is no_items [] = Unit {0}
AreEach Is no_items (x ∷ xs) = ⊥
AreEach Is (item d ds) [] = ⊥
AreEach Is (item d ds) (x ∷ xs) = Is d x × AreEach Is ds xs

-- the value is this whole number, and it is in the range of the key's numbers
pub record IsNumberOf (key : PlanKey) (d : Data) (n : ℕ) : Type 0 where
  pub is : d ≡ integer (pos n)
  pub in_range : n < number_limit key

-- the value is an array of these numbers
pub record IsNumberArray (key : PlanKey) (value : Option Data) (numbers : List ℕ) : Type 0 where
  pub items : Items
  pub is : value ≡ Some (array items)
  pub each : AreEach (IsNumberOf key) items numbers

-- the value is a row of the order: an array of these job numbers
abbrev pub IsRow : Data → List ℕ → Type 0
IsRow d row = IsNumberArray Order (Some d) row

-- the value is an array of these rows, one a machine
pub record IsRowArray (value : Option Data) (rows : List (List ℕ)) : Type 0 where
  pub items : Items
  pub is : value ≡ Some (array items)
  pub each : AreEach IsRow items rows
