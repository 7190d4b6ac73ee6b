use Rattle.plan_bounds.specs.Bounds.{times_of}
use Rattle.plan_limits.specs.Asked.{AreNumberedTo}
use Rattle.plan_limits.proofs.numbering.asked_nodes.Given as goal

abbrev pub invariant-loop-job : goal.invariant-loop-job
invariant-loop-job g l = AreNumberedTo (times_of l.cell.plan) l.cell.cell l.job 0 l.nodes.items
