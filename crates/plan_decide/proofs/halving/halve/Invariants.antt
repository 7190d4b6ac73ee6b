use Rattle.std.proofs.Common.{◌-◌}
use Rattle.plan_decide.specs.Settings.{case_in}
use Rattle.plan_decide.specs.Halves.{IsHalfway}
use Rattle.plan_decide.proofs.halving.halve.Given as goal

-- what is known so far
abbrev pub invariant-loop-halfway : goal.invariant-loop-halfway
invariant-loop-halfway g l = IsHalfway (case_in l.setting) l.objective l.halfway

abbrev pub decreases-loop-halfway : goal.decreases-loop-halfway
decreases-loop-halfway g l = l.halfway.best.value - l.halfway.low
