-- Changes by the numbers that jobs have once some are left out.
use Rattle.std.specs.Prelude.{ℕ, ◌+◌, List, [], ◌∷◌, Bool, Option, None, Some, option_map}
use Rattle.plan_revise.specs.declared.change.Change.{Change}
use Rattle.plan_revise.specs.declared.change.Change.TheVariants.{Until, Add, Route, Release, Budget, Scrap, Down, Hold}
use Rattle.run_pruning.specs.Numbers.{number_behind}

-- the change by the numbers of the jobs that stay; none where it names one that doesn't
abbrev pub renumbered_change : List Bool → Change → Option Change
renumbered_change marks (Until machine to) = Some (Until machine to)
renumbered_change marks (Add route release budget) = Some (Add route release budget)
renumbered_change marks (Route j words) = option_map (λ i. Route i words) (number_behind marks j)
renumbered_change marks (Release j moment) = option_map (λ i. Release i moment) (number_behind marks j)
renumbered_change marks (Budget j moment) = option_map (λ i. Budget i moment) (number_behind marks j)
renumbered_change marks (Scrap j) = option_map Scrap (number_behind marks j)
renumbered_change marks (Down machine) = Some (Down machine)
renumbered_change marks (Hold machine to) = Some (Hold machine to)

-- a change that is the first of these, or the end where it names a job that is left out
abbrev pub then_changes : Option Change → List Change → List Change
then_changes None changes = []
then_changes (Some change) changes = change ∷ changes

-- the changes by the new numbers, up to the first that names a job that is left out
abbrev pub renumbered_changes : List Bool → List Change → List Change
renumbered_changes marks [] = []
renumbered_changes marks (change ∷ changes) = then_changes (renumbered_change marks change) (renumbered_changes marks changes)

-- the place of the first that does
abbrev pub place_unless : Option Change → ℕ → Option ℕ → Option ℕ
place_unless None here further = Some here
place_unless (Some change) here further = further

-- the place of the first that names a job that is left out, where the first change is at this place
abbrev pub first_left_out : ℕ → List Bool → List Change → Option ℕ
first_left_out here marks [] = None
first_left_out here marks (change ∷ changes) = place_unless (renumbered_change marks change) here (first_left_out (here + 1) marks changes)
