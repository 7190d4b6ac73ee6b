-- All faults of a TOML table as one of names, in the order in which the first one counts.
use Rattle.std.specs.Prelude.{ℕ, ◌+◌, nat_le, Bool, not, is_some, if◌then◌else◌, List, [], ◌∷◌, ◌++◌, length, Option, None, Some}
use Rattle.std.specs.List.{list_any}
use Rattle.std.specs.Str.{bytes_eq}
use Rattle.toml.specs.Data.{Data, string, array, Items, no_items, item, Members, no_members, member}
use Rattle.people_names.specs.declared.keys.NamesKey.{NamesKey}
use Rattle.people_names.specs.declared.keys.NamesKey.TheVariants.{Jobs, Machines}
use Rattle.people_names.specs.declared.names_fault.NamesFault.{NamesFault}
use Rattle.people_names.specs.declared.names_fault.NamesFault.TheVariants.{UnknownKey, NotArray, NotText, BadName, NameTwice, BadClock, TooManyNames}
use Rattle.people_names.specs.Keys.{value_at, begin_in, is_known_key, printable_part}
use Rattle.people_names.specs.NameTexts.{is_name}
use Rattle.people_names.specs.Reading.{text_in, names_at, clock_in}

-- the fault, where it is one
abbrev pub unless : Bool → NamesFault → List NamesFault
unless good fault = if good then [] else fault ∷ []

-- each key, in ascending order, has to be one of a text of names
abbrev pub key_faults : Members → List NamesFault
key_faults no_members = []
key_faults (member key d rest) = unless (is_known_key key) (UnknownKey (printable_part key)) ++ key_faults rest

-- the name is one of these
abbrev pub is_among : List ℕ → List (List ℕ) → Bool
is_among name names = list_any (λ other. bytes_eq other name) names

-- an element has to be a text, which has to be a name, and none of those before it
abbrev pub name_faults : NamesKey → ℕ → List (List ℕ) → Data → List NamesFault
name_faults key place before (string text) = unless (is_name text) (BadName key place) ++ unless (not (is_among text before)) (NameTwice key place)
name_faults key place before d = NotText key place ∷ []

-- so each of these, from a place on, behind the names before it
abbrev pub each_faults : NamesKey → ℕ → List (List ℕ) → Items → List NamesFault
each_faults key place before no_items = []
each_faults key place before (item d ds) = name_faults key place before d ++ each_faults key (place + 1) (before ++ text_in d ∷ []) ds

-- a list, where there is one, has to be an array of such elements
abbrev pub list_faults : NamesKey → Option Data → List NamesFault
list_faults key None = []
list_faults key (Some (array items)) = each_faults key 0 [] items
list_faults key (Some d) = NotArray key ∷ []

-- what is stated of the clock has to be a clock
abbrev pub clock_faults : Option Data → List NamesFault
clock_faults None = []
clock_faults (Some d) = unless (is_some (clock_in (Some d))) BadClock

-- a list has to have no more names than the shop has jobs, or machines
abbrev pub count_faults : NamesKey → ℕ → Option Data → List NamesFault
count_faults key most value = unless (nat_le (length (names_at value)) most) (TooManyNames key)

-- the faults of the values: jobs, machines, the clock, and then lists that are too long
abbrev pub value_faults : ℕ → ℕ → Members → List NamesFault
value_faults jobs machines table = list_faults Jobs (value_at table Jobs)
    ++ (list_faults Machines (value_at table Machines)
    ++ (clock_faults (begin_in table)
    ++ (count_faults Jobs jobs (value_at table Jobs)
    ++ count_faults Machines machines (value_at table Machines))))

-- all faults of a table, for a shop of so many jobs and machines: a key that isn't known comes before all else
abbrev pub faults_of : ℕ → ℕ → Members → List NamesFault
faults_of jobs machines table = key_faults table ++ value_faults jobs machines table
