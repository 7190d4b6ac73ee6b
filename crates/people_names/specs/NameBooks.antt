-- What people call jobs and machines, and their clock.
use Rattle.std.specs.Prelude.{ℕ, Bool, false, List, [], Option, None}
use Rattle.people_names.specs.declared.clock.Clock.{Clock}

-- the names of the first jobs and of the first machines, the clock if there is one, whether this is for people: printed without names or clock too, but without promises that nobody gave; and whether there are lists of jobs and of machines, which may be empty
pub record NameBook : Type 0 where
  pub jobs : List (List ℕ)
  pub machines : List (List ℕ)
  pub clock : Option Clock
  pub people : Bool
  pub lists_jobs : Bool
  pub lists_machines : Bool

-- no names: numbers and moments as they are
abbrev pub no_names : NameBook
no_names = record { jobs = []; machines = []; clock = None; people = false; lists_jobs = false; lists_machines = false }
