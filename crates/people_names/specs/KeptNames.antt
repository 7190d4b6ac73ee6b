-- The names that stay where jobs are left out of a shop.
use Rattle.std.specs.Prelude.{ℕ, List, [], ◌∷◌, Option, None, Some, slice_get, take}
use Rattle.people_names.specs.NameBooks.{NameBook}

-- a name, if there is one, before these; else none
abbrev pub named_first : Option (List ℕ) → List (List ℕ) → List (List ℕ)
named_first None names = []
named_first (Some name) names = name ∷ names

-- the names of the jobs with these numbers, up to the first that has none
abbrev pub names_of_jobs : List (List ℕ) → List ℕ → List (List ℕ)
names_of_jobs names [] = []
names_of_jobs names (job ∷ jobs) = named_first (slice_get names job) (names_of_jobs names jobs)

-- the names where the jobs with these numbers stay, and so many of the first machines; the clock stays as it is
abbrev pub kept_names : NameBook → List ℕ → ℕ → NameBook
kept_names names jobs machines = record names { jobs = names_of_jobs names.jobs jobs; machines = take machines names.machines }
