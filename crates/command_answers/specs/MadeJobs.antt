-- The jobs that changes make: what they are, and their names.
use Rattle.std.specs.Prelude.{ℕ, ◌+◌, ◌==◌, ◌&&◌, if◌then◌else◌, Bool, List, [], ◌∷◌, Option, None, Some, get_or, is_some, length, option_and_then, option_map}
use Rattle.std.specs.Option.{option_map_or, option_or}
use Rattle.shop_base.specs.Plan.{machines}
use Rattle.people_names.specs.declared.unnamed.JobNameFault.{JobNameFault}
use Rattle.people_names.specs.AddedNames.{why_unnamed, with_job}
use Rattle.people_names.specs.KeptNames.{kept_names}
use Rattle.people_names.specs.NameBooks.{NameBook}
use Rattle.plan_revise.specs.declared.change.Change.{Change}
use Rattle.plan_revise.specs.declared.change.Change.TheVariants.{Until, Add, Route, Release, Budget, Scrap, Down, Hold}
use Rattle.log_chapters.specs.declared.parts.Origin.{Origin}
use Rattle.log_chapters.specs.declared.parts.Origin.TheVariants.{New, Holds}
use Rattle.run_revising.specs.declared.next.NextRun.{NextRun}

-- what the job is that a change makes, if it makes one
abbrev pub made_by : Change → Option Origin
made_by (Until machine to) = None
made_by (Add route release budget) = Some New
made_by (Scrap job) = None
made_by (Down machine) = None
made_by (Route job words) = None
made_by (Release job moment) = None
made_by (Budget job moment) = None
made_by (Hold machine to) = Some (Holds machine)

-- one job more, if there is one
abbrev pub made_first : Option Origin → List Origin → List Origin
made_first None origins = origins
made_first (Some origin) origins = origin ∷ origins

-- what the jobs are that changes make, in their order
abbrev pub all_made : List Change → List Origin
all_made [] = []
all_made (change ∷ changes) = made_first (made_by change) (all_made changes)

-- ---- their names

-- a change makes a job
abbrev pub makes_job : Change → Bool
makes_job change = is_some (made_by change)

-- the name that is given to the job of the change at a place, if one is
abbrev pub name_at : List (Option (List ℕ)) → ℕ → Option (List ℕ)
name_at called place = get_or called place None

-- the names with that of one job more, if it is given one
abbrev pub with_given : NameBook → Option (List ℕ) → NameBook
with_given book given = option_map_or (with_job book) given book

module _ (called : List (Option (List ℕ))) where
  -- the first of these changes whose job doesn't get the name that it is given, and why: behind jobs with these names, or all; the first change is at this place
  abbrev pub unnamed_from : ℕ → NameBook → Bool → List Change → Option (ℕ × JobNameFault)
  unnamed_from place book all [] = None
  unnamed_from place book all (change ∷ changes) =
      if makes_job change then option_or (option_map (λ fault. (place, fault)) (option_and_then (why_unnamed book.jobs all) (name_at called place)))
      (unnamed_from (place + 1) (with_given book (name_at called place)) (all && is_some (name_at called place)) changes)
      else unnamed_from (place + 1) book all changes

  -- the names with those of the jobs that these changes make
  abbrev pub named_from : ℕ → NameBook → List Change → NameBook
  named_from place book [] = book
  named_from place book (change ∷ changes) = named_from (place + 1) (if makes_job change then with_given book (name_at called place) else book) changes

-- the names of the jobs and machines that stay
abbrev pub names_left : NameBook → NextRun → NameBook
names_left book next = kept_names book next.were.items (machines next.shaped)

-- whether all jobs that stay have names
abbrev pub are_all_named : NameBook → NextRun → Bool
are_all_named book next = length (names_left book next).jobs == length next.were.items

-- the first of these changes whose job doesn't get its name behind the jobs that stay, and why
abbrev pub first_unnamed : List (Option (List ℕ)) → NameBook → NextRun → List Change → Option (ℕ × JobNameFault)
first_unnamed called book next changes = unnamed_from called 0 (names_left book next) (are_all_named book next) changes

-- the names of the jobs and machines that stay, with those of the jobs that changes make
abbrev pub names_given : List (Option (List ℕ)) → NameBook → NextRun → List Change → NameBook
names_given called book next changes = named_from called 0 (names_left book next) changes
