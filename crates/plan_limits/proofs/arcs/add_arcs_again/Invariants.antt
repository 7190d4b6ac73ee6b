use Rattle.plan_bounds.specs.Bounds.{times_of}
use Rattle.plan_limits.specs.Asked.{AreFixedArcs, HaveArcsAgain}
use Rattle.plan_limits.proofs.arcs.add_arcs_again.Given as goal

abbrev pub invariant-loop-number : goal.invariant-loop-number
invariant-loop-number g l = record {
  arcs : AreFixedArcs (times_of l.cell.plan) l.cell.cell l.nodes l.arcs.items;
  again : HaveArcsAgain (times_of l.cell.plan) l.nodes l.number l.arcs.items;
}
