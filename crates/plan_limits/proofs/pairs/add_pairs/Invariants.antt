use Rattle.plan_bounds.specs.Bounds.{times_of}
use Rattle.plan_limits.specs.Asked.{AreMachinePairs}
use Rattle.plan_limits.proofs.pairs.add_pairs.Given as goal

abbrev pub invariant-loop-earlier : goal.invariant-loop-earlier
invariant-loop-earlier l = AreMachinePairs (times_of l.shaped) l.nodes l.pairs.items
