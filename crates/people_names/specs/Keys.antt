-- The keys of a text of names.
use Rattle.std.specs.Prelude.{ℕ, ◌==◌, Bool, ◌||◌, if◌then◌else◌, List, [], ◌∷◌, codes, Option}
use Rattle.std.specs.Char.{is_ascii_graphic}
use Rattle.std.specs.Str.{bytes_eq}
use Rattle.toml.specs.Data.{Data, Members, get_member}
use Rattle.people_names.specs.declared.keys.NamesKey.{NamesKey}
use Rattle.people_names.specs.declared.keys.NamesKey.TheVariants.{Jobs, Machines}

-- the key as it stands in a text
abbrev pub name_of : NamesKey → List ℕ
name_of Jobs = codes "jobs"
name_of Machines = codes "machines"

-- the key of what the clock says at moment 0
abbrev pub begin_key : List ℕ
begin_key = codes "begin"

-- the value of a key, if the table has one
abbrev pub value_at : Members → NamesKey → Option Data
value_at table key = get_member (name_of key) table

-- what the table states of the clock, if it does
abbrev pub begin_in : Members → Option Data
begin_in table = get_member begin_key table

-- whether a key is one of a text of names
abbrev pub is_known_key : List ℕ → Bool
is_known_key key = bytes_eq key (name_of Jobs) || bytes_eq key (name_of Machines) || bytes_eq key begin_key

-- a blank, or a printable character of ASCII
abbrev pub is_printable : ℕ → Bool
is_printable byte = byte == 32 || is_ascii_graphic byte

-- the bytes before the first one that isn't printable
abbrev pub printable_part : List ℕ → List ℕ
printable_part [] = []
printable_part (byte ∷ bytes) = if is_printable byte then byte ∷ printable_part bytes else []
