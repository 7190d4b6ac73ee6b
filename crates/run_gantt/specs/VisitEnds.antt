-- What the later entries record of each job on each machine, kept in a table while the entries are gone through from the last to the first.
use Rattle.std.specs.Prelude.{◌≡◌, ℕ, ◌+◌, ◌*◌, ◌<◌, List, length, slice_index_or, None}
use Rattle.shop_base.specs.declared.limits.TheConstants.{MAX_MACHINES}
use Rattle.cell_tables.specs.declared.entry.Entry.{Entry}
use Rattle.run_gantt.specs.declared.visit_ends.VisitEnd.{VisitEnd}
use Rattle.run_gantt.specs.Visits.{visit_end}

-- nothing is recorded of a job on a machine
abbrev pub no_end : VisitEnd
no_end = record { finish = None; leave = None }

-- the place of job j on machine m, in a table of this size
pub record IsPlace (size j m place : ℕ) : Type 0 where
  pub machine : m < MAX_MACHINES
  pub index : place ≡ j * MAX_MACHINES + m
  pub within : place < size

-- a table of this size has none
abbrev pub HasNoPlace : ℕ → ℕ → ℕ → Type 0
HasNoPlace size j m = m < MAX_MACHINES → j * MAX_MACHINES + m < size → ⊥

-- each place of the table has what the entries record of its job and machine
pub record AreVisitEnds (ends : List VisitEnd) (entries : List Entry) : Type 0 where
  pub exact : (j m place : ℕ) → IsPlace (length ends) j m place → slice_index_or ends place no_end ≡ visit_end j m entries
