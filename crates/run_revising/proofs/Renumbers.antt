-- Changes by new numbers: how many there are, and where the first that names a job that is left out stands.
use Rattle.std.proofs.Common.{◌≡◌, ℕ, ◌+◌, ◌<◌, ◌≤◌, List, [], ◌∷◌, length, Bool, Option, None, Some, arith}
use Rattle.std.proofs.lemmas.Option.{slice_get_within}
use Rattle.plan_revise.specs.declared.change.Change.{Change}
use Rattle.plan_revise.specs.declared.change.NotRevised.{NotRevised}
use Rattle.plan_revise.specs.declared.change.NotRevised.TheVariants.{Refused, Memory}
use Rattle.run_revising.specs.NextRuns.{IsAtOneOf}
use Rattle.run_revising.specs.RunChanges.{ChangingRun, IsReasonNotMade}
use Rattle.run_revising.specs.Renumbering.{renumbered_change, renumbered_changes, first_left_out, then_changes, place_unless}

then_fewer : (found : Option Change) (changes : List Change) (n : ℕ) → length changes ≤ n → length (then_changes found changes) ≤ n + 1
then_fewer None changes n few = omega arith
then_fewer (Some change) changes n few = omega (arith, few)

-- there are no more than before
pub no_more_changes : (marks : List Bool) (changes : List Change) → length (renumbered_changes marks changes) ≤ length changes
no_more_changes marks [] = omega arith
no_more_changes marks (change ∷ changes) =
    omega (arith, then_fewer (renumbered_change marks change) (renumbered_changes marks changes) (length changes) (no_more_changes marks changes))

place_here : (found : Option Change) (here n most : ℕ) (further : Option ℕ) → place_unless found here further ≡ Some n → (further ≡ Some n → n < here + 1 + most) → n < here + 1 + most
place_here None here n most further is behind = let same : here ≡ n = cc in omega (arith, same)
place_here (Some change) here n most further is behind = behind is

-- that place is one of theirs
pub place_within : (marks : List Bool) (changes : List Change) (here n : ℕ) → first_left_out here marks changes ≡ Some n → n < here + length changes
place_within marks [] here n is = absurd (cc)
place_within marks (change ∷ changes) here n is =
    omega (arith, place_here (renumbered_change marks change) here n (length changes) (first_left_out (here + 1) marks changes) is (place_within marks changes (here + 1) n))

-- so is the place of a change that can't be
pub at_one_of : (plant t : ℕ) (start : ChangingRun) (changes : List Change) (answer : NotRevised) → IsReasonNotMade plant t start changes answer → IsAtOneOf changes answer
at_one_of plant t start changes (Refused n fault) is = slice_get_within changes n is.change is.there
at_one_of plant t start changes Memory is = tt

pub at_one_of_all : (marks : List Bool) (changes : List Change) (plant t : ℕ) (start : ChangingRun) (answer : NotRevised) → IsReasonNotMade plant t start (renumbered_changes marks changes) answer → IsAtOneOf changes answer
at_one_of_all marks changes plant t start (Refused n fault) is =
    omega (arith, slice_get_within (renumbered_changes marks changes) n is.change is.there, no_more_changes marks changes)
at_one_of_all marks changes plant t start Memory is = tt
