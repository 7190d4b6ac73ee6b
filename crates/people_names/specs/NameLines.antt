-- The text of names: a line for each key, as a text of names in TOML has them.
use Rattle.std.specs.Prelude.{ℕ, ◌==◌, ◌||◌, if◌then◌else◌, Bool, List, [], ◌∷◌, ◌++◌, Option, None, Some, codes}
use Rattle.people_names.specs.declared.clock.Clock.{Clock}
use Rattle.people_names.specs.declared.keys.NamesKey.{NamesKey}
use Rattle.people_names.specs.declared.keys.NamesKey.TheVariants.{Jobs, Machines}
use Rattle.people_names.specs.Keys.{name_of, begin_key}
use Rattle.people_names.specs.NameBooks.{NameBook}
use Rattle.people_names.specs.Words.{moment_by}

-- a byte in a basic string of TOML: `\` stands before `"` and `\`
abbrev pub basic_byte : ℕ → List ℕ
basic_byte byte = if byte == 34 || byte == 92 then 92 ∷ byte ∷ [] else byte ∷ []

abbrev pub basic_bytes : List ℕ → List ℕ
basic_bytes [] = []
basic_bytes (byte ∷ bytes) = basic_byte byte ++ basic_bytes bytes

-- a text as a basic string
abbrev pub basic_string : List ℕ → List ℕ
basic_string text = codes "\"" ++ basic_bytes text ++ codes "\""

-- names, each behind a comma
abbrev pub more_names : List (List ℕ) → List ℕ
more_names [] = []
more_names (name ∷ names) = codes ", " ++ basic_string name ++ more_names names

-- names with commas between them
abbrev pub name_list : List (List ℕ) → List ℕ
name_list [] = []
name_list (name ∷ names) = basic_string name ++ more_names names

-- the line of a list, where there is one
abbrev pub list_line : NamesKey → Bool → List (List ℕ) → List ℕ
list_line key is names = if is then name_of key ++ codes " = [" ++ name_list names ++ codes "]\n" else []

-- the line of what the clock says at moment 0, where there is one
abbrev pub clock_line : Option Clock → List ℕ
clock_line None = []
clock_line (Some clock) = begin_key ++ codes " = \"" ++ moment_by (Some clock) 0 ++ codes "\"\n"

-- the text of names: jobs, machines, the clock
abbrev pub name_lines : NameBook → List ℕ
name_lines names = list_line Jobs names.lists_jobs names.jobs ++ list_line Machines names.lists_machines names.machines ++ clock_line names.clock
