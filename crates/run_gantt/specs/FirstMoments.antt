-- What is recorded first of each machine or job, kept in a table while the entries are gone through from the last to the first.
use Rattle.std.specs.Prelude.{◌≡◌, ℕ, ◌<◌, List, length, slice_index_or, Option, None}
use Rattle.cell_tables.specs.declared.entry.Entry.{Entry}
use Rattle.run_gantt.specs.Visits.{first_of}
use Rattle.run_gantt.specs.DrawnVisits.{cleaning_in}
use Rattle.run_gantt.specs.LeavingsSoFar.{leaving_in}

-- each place of the table, which has so many, has what the entries record of it first
pub record AreFirstMoments (moment_in : ℕ → Entry → Option ℕ) (size : ℕ) (ends : List (Option ℕ)) (entries : List Entry) : Type 0 where
  pub all : length ends ≡ size
  pub first : (n : ℕ) → n < length ends → slice_index_or ends n None ≡ first_of (moment_in n) entries

-- when the cleaning of each machine is next reported
abbrev pub AreCleaningEnds : ℕ → List (Option ℕ) → List Entry → Type 0
AreCleaningEnds = AreFirstMoments cleaning_in

-- when each job next leaves the cell
abbrev pub AreLeavingsAhead : ℕ → List (Option ℕ) → List Entry → Type 0
AreLeavingsAhead = AreFirstMoments leaving_in
