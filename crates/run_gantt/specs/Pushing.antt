-- The Gantt text while it is written: what was pushed onto it, and what a bar shows so far.
use Rattle.std.specs.Prelude.{◌≡◌, ℕ, ◌*◌, ◌<◌, ◌++◌, List, [], flat_map, slice_index_or, Option, None, String, string_bytes}
use Rattle.std.specs.Option.{option_or}
use Rattle.std.specs.List.{range_with_len}
use Rattle.people_names.specs.NameBooks.{NameBook}
use Rattle.run_gantt.specs.declared.bar.TheConstants.{MAX_COLUMNS}
use Rattle.run_gantt.specs.declared.visits.LoggedVisit.{LoggedVisit}
use Rattle.run_gantt.specs.GanttText.{row_lines}

-- these bytes were put behind those of the text
abbrev pub IsPushed : {A : Type 0} → String A → String A → List ℕ → Type 0
IsPushed before after bytes = string_bytes after ≡ string_bytes before ++ bytes

-- the lines of so many machines, one after another, of whose visits these are the rows
abbrev pub all_lines : NameBook → ℕ → ℕ → List (List LoggedVisit) → ℕ → List ℕ
all_lines names scale columns rows machines = flat_map (row_lines names scale columns rows) (range_with_len 0 machines)

-- the visits to machine m, among the rows of visits
abbrev pub visits_to : List (List LoggedVisit) → ℕ → List LoggedVisit
visits_to rows m = slice_index_or rows m []

-- each column of a bar shows what it showed, or else what there is to show at the column's first moment
abbrev pub SignsToo : ℕ → (ℕ → Option ℕ) → List (Option ℕ) → List (Option ℕ) → Type 0
SignsToo scale sign before after = (c : ℕ) → c < MAX_COLUMNS → slice_index_or after c None ≡ option_or (slice_index_or before c None) (sign (c * scale))
