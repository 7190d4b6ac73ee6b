-- The text that is written for a plan.
use Rattle.std.specs.Prelude.{ℕ, List, [], ◌∷◌, ◌++◌, codes, decimal, Option, None, Some}
use Rattle.std.specs.List.{flat_map}
use Rattle.shop_base.specs.Plan.{ShopPlan}
use Rattle.plan_text.specs.declared.keys.PlanKey.{PlanKey}
use Rattle.plan_text.specs.declared.keys.PlanKey.TheVariants.{Release, Budget, Order, Clean}
use Rattle.plan_text.specs.Keys.{key_name, version_key}

-- the elements behind the first one, each with a comma and a space before it
abbrev pub after_first : {A : Type 0} → (A → List ℕ) → List A → List ℕ
after_first text xs = flat_map (λ x. codes ", " ++ text x) xs

-- a list: its elements in brackets, with a comma and a space between them
abbrev pub list_text : {A : Type 0} → (A → List ℕ) → List A → List ℕ
list_text text [] = codes "[]"
list_text text (x ∷ xs) = codes "[" ++ (text x ++ (after_first text xs ++ codes "]"))

-- a list of numbers, in decimal
abbrev pub numbers_text : List ℕ → List ℕ
numbers_text numbers = list_text decimal numbers

-- a list of such lists
abbrev pub lists_text : List (List ℕ) → List ℕ
lists_text rows = list_text numbers_text rows

-- the line of a key
abbrev pub key_line : PlanKey → List ℕ → List ℕ
key_line key value = key_name key ++ (codes " = " ++ (value ++ codes "\n"))

-- the three lines of every plan
abbrev pub three_lines : ShopPlan → List ℕ
three_lines plan = key_line Release (numbers_text plan.release) ++ (key_line Budget (numbers_text plan.budget) ++ key_line Order (lists_text plan.order))

-- the line of version 2
abbrev pub version_line : List ℕ
version_line = version_key ++ codes " = 2\n"

-- these lines, and in version 2 the version's before them and the cleaning times' behind them
abbrev pub lines_with : Option (List ℕ) → List ℕ → List ℕ
lines_with None three = three
lines_with (Some times) three = version_line ++ (three ++ key_line Clean (numbers_text times))

-- the lines of a plan
abbrev pub plan_lines : ShopPlan → List ℕ
plan_lines plan = lines_with plan.clean (three_lines plan)
