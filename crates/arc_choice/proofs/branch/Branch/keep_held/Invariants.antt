use Rattle.arc_choice.specs.Branches.{Narrows, Always}
use Rattle.arc_choice.proofs.branch.Branch.keep_held.Given as goal

-- no answers were lost
abbrev pub invariant-loop-link : goal.invariant-loop-link
invariant-loop-link l = Narrows Always l.question l.fn.self l.self
