-- The numbers and lists that stand in a TOML table, where they are right.
use Rattle.std.specs.Prelude.{ℕ, pos, Bool, true, false, List, [], ◌∷◌, Option, None, Some}
use Rattle.shop_base.specs.Plan.{ShopPlan}
use Rattle.toml.specs.Data.{Data, integer, array, Items, no_items, item, Members}
use Rattle.plan_text.specs.declared.keys.PlanKey.TheVariants.{Release, Budget, Order, Clean}
use Rattle.plan_text.specs.Keys.{plan_value_at, version_in}
use Rattle.plan_text.specs.Listing.{has_cleaning}

-- a whole number
abbrev pub number_in : Data → ℕ
number_in (integer (pos n)) = n
number_in d = 0

-- what each item is seen as
abbrev pub each_item : {A : Type 0} → (Data → A) → Items → List A
each_item f no_items = []
each_item f (item d ds) = f d ∷ each_item f ds

-- the numbers of an array
abbrev pub numbers_in : Data → List ℕ
numbers_in (array items) = each_item number_in items
numbers_in d = []

-- the rows of an array
abbrev pub rows_in : Data → List (List ℕ)
rows_in (array items) = each_item numbers_in items
rows_in d = []

-- the list of a key's value, where there is one
abbrev pub list_at : {A : Type 0} → (Data → List A) → Option Data → List A
list_at list None = []
list_at list (Some d) = list d

-- the cleaning times, where the version has some
abbrev pub clean_in : Bool → Members → Option (List ℕ)
clean_in true table = Some (list_at numbers_in (plan_value_at table Clean))
clean_in false table = None

-- the plan of a table
abbrev pub plan_with : Bool → Members → ShopPlan
plan_with cleaning table = record {
  release = list_at numbers_in (plan_value_at table Release);
  budget = list_at numbers_in (plan_value_at table Budget);
  order = list_at rows_in (plan_value_at table Order);
  clean = clean_in cleaning table;
}

-- the plan in a table, by its version
abbrev pub plan_in : Members → ShopPlan
plan_in table = plan_with (has_cleaning (version_in table)) table
