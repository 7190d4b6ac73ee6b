-- Which plan a TOML table is.
use Rattle.std.specs.Prelude.{◌≡◌, ℕ, ◌⊎◌, pos, List, Option, None, Some}
use Rattle.shop_base.specs.Plan.{ShopPlan}
use Rattle.toml.specs.Data.{Data, integer, Members, no_members, member}
use Rattle.plan_text.specs.declared.keys.PlanKey.TheVariants.{Release, Budget, Order, Clean}
use Rattle.plan_text.specs.Keys.{key_name, version_key, plan_value_at, version_in}
use Rattle.plan_text.specs.Numbers.{IsNumberArray, IsRowArray}

-- a plan without cleaning has version 1, which may be left out, and one with cleaning has version 2
abbrev pub IsVersionOf : Option (List ℕ) → Option Data → Type 0
IsVersionOf None version = (version ≡ None) ⊎ (version ≡ Some (integer (pos 1)))
IsVersionOf (Some times) version = version ≡ Some (integer (pos 2))

-- the key is one of every plan text
abbrev pub IsCommonKey : List ℕ → Type 0
IsCommonKey key = (key ≡ version_key) ⊎ (key ≡ key_name Release) ⊎ (key ≡ key_name Budget) ⊎ (key ≡ key_name Order)

-- the key is one of a plan text, with cleaning or without
abbrev pub IsKeyOf : Option (List ℕ) → List ℕ → Type 0
IsKeyOf None key = IsCommonKey key
IsKeyOf (Some times) key = IsCommonKey key ⊎ (key ≡ key_name Clean)

-- each key of the table is one of such a plan text
abbrev pub HasOnlyKeys : Option (List ℕ) → Members → Type 0
HasOnlyKeys clean no_members = Unit {0}
HasOnlyKeys clean (member key d rest) = IsKeyOf clean key × HasOnlyKeys clean rest

-- a plan with cleaning has an array of these cleaning times
abbrev pub IsCleanArray : Option (List ℕ) → Option Data → Type 0
IsCleanArray None value = Unit {0}
IsCleanArray (Some times) value = IsNumberArray Clean value times

-- the table is the plan: it has the keys of the plan's version and no other, and their values are the plan's lists
pub record IsPlanTable (table : Members) (plan : ShopPlan) : Type 0 where
  pub version : IsVersionOf plan.clean (version_in table)
  pub keys : HasOnlyKeys plan.clean table
  pub release : IsNumberArray Release (plan_value_at table Release) plan.release
  pub budget : IsNumberArray Budget (plan_value_at table Budget) plan.budget
  pub order : IsRowArray (plan_value_at table Order) plan.order
  pub clean : IsCleanArray plan.clean (plan_value_at table Clean)
