-- What can be wrong with a TOML table as a plan, and which fault comes first.
use Rattle.std.specs.Prelude.{◌≡◌, ℕ, ◌<◌, ◌⊎◌, ℤ, pos, List, [], ◌∷◌, Option, None, Some}
use Rattle.toml.specs.Data.{Data, integer, array, Items, get_item, Members, no_members, member}
use Rattle.plan_text.specs.declared.keys.PlanKey.{PlanKey}
use Rattle.plan_text.specs.declared.keys.PlanKey.TheVariants.{Release, Budget, Order, Clean}
use Rattle.plan_text.specs.declared.plan_fault.PlanFault.{PlanFault}
use Rattle.plan_text.specs.declared.plan_fault.PlanFault.TheVariants.{NotToml, BadVersion, UnknownKey, MissingKey, NotArray, NotWhole, OutOfRange, Memory, NotReadBack}
use Rattle.plan_text.specs.Keys.{key_name, plan_value_at, version_in}
use Rattle.plan_text.specs.Numbers.{IsNumberOf}
use Rattle.plan_text.specs.Plans.{IsCommonKey}

-- the table's version is 2, that of plans with cleaning
abbrev pub HasCleaning : Members → Type 0
HasCleaning table = version_in table ≡ Some (integer (pos 2))

-- the table states a version, and it isn't the whole number 1 or 2
pub record HasBadVersion (table : Members) : Type 0 where
  pub version : Data
  pub given : version_in table ≡ Some version
  pub not_one : version ≡ integer (pos 1) → ⊥
  pub not_two : version ≡ integer (pos 2) → ⊥

-- the key is one of the table
abbrev pub HasKey : List ℕ → Members → Type 0
HasKey key no_members = ⊥
HasKey key (member other d rest) = (key ≡ other) ⊎ HasKey key rest

-- the key is one of those of the table's version
abbrev pub IsKnownKey : Members → List ℕ → Type 0
IsKnownKey table key = IsCommonKey key ⊎ ((key ≡ key_name Clean) × HasCleaning table)

-- the table has a key that isn't
pub record HasUnknownKey (table : Members) : Type 0 where
  pub key : List ℕ
  pub there : HasKey key table
  pub unknown : IsKnownKey table key → ⊥

-- the table's version wants the key
abbrev pub IsWanted : Members → PlanKey → Type 0
IsWanted table Clean = HasCleaning table
IsWanted table key = Unit {0}

-- the value stands where the table's version wants a list: at a key, or as a row of the order
abbrev pub IsListAt : Members → PlanKey → Option ℕ → Data → Type 0
IsListAt table key None d = IsWanted table key × (plan_value_at table key ≡ Some d)
IsListAt table Order (Some machine) d = (rows : Items) × (plan_value_at table Order ≡ Some (array rows)) × (get_item machine rows ≡ Some d)
IsListAt table key (Some machine) d = ⊥

-- the value stands where a number is wanted: at a place of a list, which for the order is a row
abbrev pub IsElementAt : Members → PlanKey → Option ℕ → ℕ → Data → Type 0
IsElementAt table Order None place d = ⊥
IsElementAt table key row place d = (items : Items) × IsListAt table key row (array items) × (get_item place items ≡ Some d)

-- a value that has to be an array isn't
pub record HasNoArray (table : Members) (key : PlanKey) (row : Option ℕ) : Type 0 where
  pub value : Data
  pub here : IsListAt table key row value
  pub no_array : (items : Items) → value ≡ array items → ⊥

-- a value that has to be a whole number isn't
pub record HasNoNumber (table : Members) (key : PlanKey) (row : Option ℕ) (place : ℕ) : Type 0 where
  pub value : Data
  pub here : IsElementAt table key row place value
  pub no_number : (z : ℤ) → value ≡ integer z → ⊥

-- a whole number is none of the range
pub record HasNumberOutside (table : Members) (key : PlanKey) (row : Option ℕ) (place : ℕ) : Type 0 where
  pub number : ℤ
  pub here : IsElementAt table key row place (integer number)
  pub outside : (n : ℕ) → IsNumberOf key (integer number) n → ⊥

-- the table has the fault
abbrev pub HasFault : Members → PlanFault → Type 0
HasFault table NotToml = ⊥
HasFault table BadVersion = HasBadVersion table
HasFault table UnknownKey = HasUnknownKey table
HasFault table (MissingKey key) = IsWanted table key × (plan_value_at table key ≡ None)
HasFault table (NotArray key row) = HasNoArray table key row
HasFault table (NotWhole key row place) = HasNoNumber table key row place
HasFault table (OutOfRange key row place) = HasNumberOutside table key row place
HasFault table Memory = ⊥
HasFault table NotReadBack = ⊥

-- the keys in the order in which they are looked at
abbrev pub place_of : PlanKey → ℕ
place_of Release = 0
place_of Budget = 1
place_of Order = 2
place_of Clean = 3

-- the turn of a list: its key, and for a row of the order the machine
abbrev pub list_turn : PlanKey → Option ℕ → List ℕ → List ℕ
list_turn key None rest = place_of key ∷ rest
list_turn key (Some machine) rest = place_of key ∷ machine ∷ rest

-- the turn of a fault: the version, the unknown keys, the missing keys, and then the lists, each from its first element on
abbrev pub turn_of : PlanFault → List ℕ
turn_of NotToml = []
turn_of BadVersion = 0 ∷ []
turn_of UnknownKey = 1 ∷ []
turn_of (MissingKey key) = 2 ∷ place_of key ∷ []
turn_of (NotArray key row) = 3 ∷ list_turn key row []
turn_of (NotWhole key row place) = 3 ∷ list_turn key row (place ∷ [])
turn_of (OutOfRange key row place) = 3 ∷ list_turn key row (place ∷ [])
turn_of Memory = []
turn_of NotReadBack = []

-- one turn comes before another, as words do in a dictionary
abbrev pub IsTurnBefore : List ℕ → List ℕ → Type 0
IsTurnBefore [] [] = ⊥
IsTurnBefore [] (n ∷ ns) = Unit {0}
IsTurnBefore (m ∷ ms) [] = ⊥
IsTurnBefore (m ∷ ms) (n ∷ ns) = (m < n) ⊎ ((m ≡ n) × IsTurnBefore ms ns)

-- the table has the fault, and none whose turn comes before
pub record IsFirstTableFault (table : Members) (fault : PlanFault) : Type 0 where
  pub has : HasFault table fault
  pub first : (other : PlanFault) → HasFault table other → IsTurnBefore (turn_of other) (turn_of fault) → ⊥
