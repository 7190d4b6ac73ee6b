use Rattle.std.proofs.Common.{◌-◌}
use Rattle.run_picture.specs.Steps.{AreNextSteps}
use Rattle.run_picture.proofs.axis.long_step.Given as goal

abbrev pub invariant-loop-next : goal.invariant-loop-next
invariant-loop-next l = AreNextSteps l.begin l.last l.unit l.step l.next l.after

abbrev pub decreases-loop-next : goal.decreases-loop-next
decreases-loop-next l = l.last - l.step
