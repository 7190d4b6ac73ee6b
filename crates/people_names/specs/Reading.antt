-- The names and the clock that stand in a TOML table.
use Rattle.std.specs.Prelude.{ℕ, true, List, [], ◌∷◌, Option, None, Some, is_some}
use Rattle.toml.specs.Data.{Data, string, array, Items, no_items, item, Members}
use Rattle.people_names.specs.declared.clock.Clock.{Clock}
use Rattle.people_names.specs.declared.keys.NamesKey.TheVariants.{Jobs, Machines}
use Rattle.people_names.specs.Keys.{value_at, begin_in}
use Rattle.people_names.specs.Clocks.{clock_of}
use Rattle.people_names.specs.NameBooks.{NameBook}

-- a text
abbrev pub text_in : Data → List ℕ
text_in (string text) = text
text_in d = []

-- the texts of an array
abbrev pub texts_in : Items → List (List ℕ)
texts_in no_items = []
texts_in (item d ds) = text_in d ∷ texts_in ds

-- the names of a key's value, where there is one
abbrev pub names_at : Option Data → List (List ℕ)
names_at (Some (array items)) = texts_in items
names_at value = []

-- the clock that a value states
abbrev pub clock_in : Option Data → Option Clock
clock_in (Some (string text)) = clock_of text
clock_in value = None

-- the names and the clock of a table, for people
abbrev pub names_in : Members → NameBook
names_in table = record {
  jobs = names_at (value_at table Jobs);
  machines = names_at (value_at table Machines);
  clock = clock_in (begin_in table);
  people = true;
  lists_jobs = is_some (value_at table Jobs);
  lists_machines = is_some (value_at table Machines);
}
