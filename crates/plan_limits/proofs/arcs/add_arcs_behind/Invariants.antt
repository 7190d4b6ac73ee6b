use Rattle.plan_bounds.specs.Bounds.{times_of}
use Rattle.plan_limits.specs.Asked.{AreFixedArcs}
use Rattle.plan_limits.proofs.arcs.add_arcs_behind.Given as goal

abbrev pub invariant-loop-enters : goal.invariant-loop-enters
invariant-loop-enters g l = AreFixedArcs (times_of l.cell.plan) l.cell.cell l.nodes l.arcs.items
