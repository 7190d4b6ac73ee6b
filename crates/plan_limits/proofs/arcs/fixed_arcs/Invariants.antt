use Rattle.plan_bounds.specs.Bounds.{times_of}
use Rattle.plan_limits.specs.Asked.{AreFixedArcs}
use Rattle.plan_limits.proofs.arcs.fixed_arcs.Given as goal

abbrev pub invariant-loop-number : goal.invariant-loop-number
invariant-loop-number g l = AreFixedArcs (times_of l.cell.plan) l.cell.cell l.nodes l.arcs.items
