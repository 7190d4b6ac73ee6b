use Rattle.plan_bounds.specs.Bounds.{times_of}
use Rattle.plan_limits.specs.Asked.{AreNumberedTo}
use Rattle.plan_limits.proofs.numbering.add_job.Given as goal

abbrev pub invariant-loop-place : goal.invariant-loop-place
invariant-loop-place g l = AreNumberedTo (times_of l.cell.plan) l.cell.cell l.job l.place l.nodes.items
