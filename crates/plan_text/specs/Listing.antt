-- All faults of a TOML table as a plan, in the order in which the first one counts: what the checks go through.
use Rattle.std.specs.Prelude.{ℕ, ◌+◌, ◌==◌, ◌||◌, nat_lt, pos, negsuc, Bool, true, false, if◌then◌else◌, List, [], ◌∷◌, ◌++◌, Option, None, Some}
use Rattle.std.specs.Str.{bytes_eq}
use Rattle.toml.specs.Data.{Data, integer, array, Items, no_items, item, Members, no_members, member}
use Rattle.plan_text.specs.declared.keys.PlanKey.{PlanKey}
use Rattle.plan_text.specs.declared.keys.PlanKey.TheVariants.{Release, Budget, Order, Clean}
use Rattle.plan_text.specs.declared.plan_fault.PlanFault.{PlanFault}
use Rattle.plan_text.specs.declared.plan_fault.PlanFault.TheVariants.{BadVersion, UnknownKey, MissingKey, NotArray, NotWhole, OutOfRange}
use Rattle.plan_text.specs.Keys.{key_name, version_key, number_limit, plan_value_at, version_in}

-- the fault, where it is one
abbrev pub unless : Bool → PlanFault → List PlanFault
unless good fault = if good then [] else fault ∷ []

-- a stated version has to be the whole number 1 or 2
abbrev pub version_faults : Option Data → List PlanFault
version_faults None = []
version_faults (Some (integer (pos n))) = unless (n == 1 || n == 2) BadVersion
version_faults (Some (integer (negsuc n))) = BadVersion ∷ []
version_faults (Some d) = BadVersion ∷ []

-- whether a stated version is 2, that of plans with cleaning
abbrev pub has_cleaning : Option Data → Bool
has_cleaning None = false
has_cleaning (Some (integer (pos n))) = n == 2
has_cleaning (Some (integer (negsuc n))) = false
has_cleaning (Some d) = false

-- whether a key is one of every plan text
abbrev pub is_common_key : List ℕ → Bool
is_common_key key = bytes_eq key version_key || bytes_eq key (key_name Release) || bytes_eq key (key_name Budget) || bytes_eq key (key_name Order)

-- whether a key is one of a plan text, with cleaning or without
abbrev pub is_known_key : Bool → List ℕ → Bool
is_known_key true key = is_common_key key || bytes_eq key (key_name Clean)
is_known_key false key = is_common_key key

-- each key has to be one of the plan's
abbrev pub key_faults : Bool → Members → List PlanFault
key_faults cleaning no_members = []
key_faults cleaning (member key d rest) = unless (is_known_key cleaning key) UnknownKey ++ key_faults cleaning rest

-- the key has to be there
abbrev pub missing_faults : PlanKey → Option Data → List PlanFault
missing_faults key None = MissingKey key ∷ []
missing_faults key (Some d) = []

-- an element has to be a whole number within the range
abbrev pub number_faults : PlanKey → Option ℕ → ℕ → Data → List PlanFault
number_faults key row place (integer (pos n)) = unless (nat_lt n (number_limit key)) (OutOfRange key row place)
number_faults key row place (integer (negsuc n)) = OutOfRange key row place ∷ []
number_faults key row place d = NotWhole key row place ∷ []

-- the faults of each item, from a place on
abbrev pub each_faults : (ℕ → Data → List PlanFault) → ℕ → Items → List PlanFault
each_faults faults place no_items = []
each_faults faults place (item d ds) = faults place d ++ each_faults faults (place + 1) ds

-- a list has to be an array of such elements
abbrev pub list_faults : PlanKey → Option ℕ → Data → List PlanFault
list_faults key row (array items) = each_faults (number_faults key row) 0 items
list_faults key row d = NotArray key row ∷ []

-- a row of the order has to be a list
abbrev pub row_faults : ℕ → Data → List PlanFault
row_faults machine d = list_faults Order (Some machine) d

-- the order has to be an array of such rows
abbrev pub order_faults : Data → List PlanFault
order_faults (array items) = each_faults row_faults 0 items
order_faults d = NotArray Order None ∷ []

-- the faults of a key's value, where there is one
abbrev pub faults_at : (Data → List PlanFault) → Option Data → List PlanFault
faults_at faults None = []
faults_at faults (Some d) = faults d

-- what counts in a version with cleaning alone
abbrev pub if_cleaning : Bool → List PlanFault → List PlanFault
if_cleaning cleaning faults = if cleaning then faults else []

-- the keys have to be there
abbrev pub missing_keys : Bool → Members → List PlanFault
missing_keys cleaning table = missing_faults Release (plan_value_at table Release)
    ++ (missing_faults Budget (plan_value_at table Budget)
    ++ (missing_faults Order (plan_value_at table Order)
    ++ if_cleaning cleaning (missing_faults Clean (plan_value_at table Clean))))

-- the cleaning times have to be right, where the version has some
abbrev pub clean_faults : Bool → Members → List PlanFault
clean_faults cleaning table = if_cleaning cleaning (faults_at (list_faults Clean None) (plan_value_at table Clean))

-- the lists have to be right
abbrev pub list_values : Bool → Members → List PlanFault
list_values cleaning table = faults_at (list_faults Release None) (plan_value_at table Release)
    ++ (faults_at (list_faults Budget None) (plan_value_at table Budget)
    ++ (faults_at order_faults (plan_value_at table Order)
    ++ clean_faults cleaning table))

-- the faults of a table whose version has cleaning, or hasn't: keys that aren't known, missing keys, and then the lists
abbrev pub content_faults : Bool → Members → List PlanFault
content_faults cleaning table = key_faults cleaning table ++ (missing_keys cleaning table ++ list_values cleaning table)

-- all faults of a table, in the order in which the first one counts: the version comes before all else
abbrev pub faults_of : Members → List PlanFault
faults_of table = version_faults (version_in table) ++ content_faults (has_cleaning (version_in table)) table
