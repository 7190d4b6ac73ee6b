-- The visits to all machines in one table, in which those to a machine follow each other, and what one entry more makes of them.
use Rattle.std.specs.Prelude.{◌≡◌, ℕ, zero, suc, ◌<◌, List, [], ◌∷◌, length, map, slice_index_or, Option, None, Some}
use Rattle.cell_tables.specs.declared.entry.Entry.{Entry}
use Rattle.run_gantt.specs.declared.visits.LoggedVisit.{LoggedVisit}
use Rattle.run_gantt.specs.declared.visits.LinkedVisit.{LinkedVisit}
use Rattle.run_gantt.specs.Visits.{machine_visits}

-- a visit that has no other behind it
abbrev pub no_visit : LinkedVisit
no_visit = record { visit = record { job = 0; enter = 0; finish = None; leave = None }; next = None }

-- the visits from this place of the table on, each followed by that at the next place, and so many at the most
abbrev pub linked_from : List LinkedVisit → ℕ → Option ℕ → List LoggedVisit
linked_from table zero next = []
linked_from table (suc most) None = []
linked_from table (suc most) (Some place) =
    (slice_index_or table place no_visit).visit ∷ linked_from table most (slice_index_or table place no_visit).next

-- the visits to each machine, from the place of its first one on
abbrev pub rows_of : List LinkedVisit → List (Option ℕ) → List (List LoggedVisit)
rows_of table first = map (linked_from table (length table)) first

-- the place of the visit that comes next is below this
abbrev pub IsBelow : Option ℕ → ℕ → Type 0
IsBelow None place = Unit {0}
IsBelow (Some next) place = next < place

-- the visits stand in the table, from this place on each with the place of the next
abbrev pub AreLinked : List LinkedVisit → Option ℕ → List LoggedVisit → Type 0
AreLinked table first [] = first ≡ None
AreLinked table first (visit ∷ visits) =
    (place : ℕ) × (first ≡ Some place) × (place < length table) × ((slice_index_or table place no_visit).visit ≡ visit)
    × IsBelow (slice_index_or table place no_visit).next place × AreLinked table (slice_index_or table place no_visit).next visits

-- the places fall from each machine's first visit to its last
pub record AreAllLinked (table : List LinkedVisit) (first : List (Option ℕ)) : Type 0 where
  pub chains : (m : ℕ) → m < length first
      → AreLinked table (slice_index_or first m None) (linked_from table (length table) (slice_index_or first m None))

-- if the one rows are the visits that the later entries record, the others are those that the entry records with them
abbrev pub AreVisitsBefore : List (List LoggedVisit) → Entry → List Entry → List (List LoggedVisit) → Type 0
AreVisitsBefore old entry later new = (n : ℕ) → old ≡ machine_visits n later → new ≡ machine_visits n (entry ∷ later)
