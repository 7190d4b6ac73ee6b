use Rattle.arc_choice.specs.Branches.{Narrows, Always}
use Rattle.arc_choice.proofs.branch.Branch.decide_all_forced.Given as goal

-- no answers were lost
abbrev pub invariant-loop : goal.invariant-loop
invariant-loop l = Narrows Always l.question l.fn.self l.self
