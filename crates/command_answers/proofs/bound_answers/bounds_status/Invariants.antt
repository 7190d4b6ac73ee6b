use Rattle.plan_bounds.specs.Bounds.{times_of}
use Rattle.command_answers.specs.BoundLines.{CanBeInTime}
use Rattle.command_answers.proofs.bound_answers.bounds_status.Given as goal

-- the jobs looked at can be in time
abbrev pub invariant-loop-job : goal.invariant-loop-job
invariant-loop-job l = CanBeInTime (times_of l.shaped) l.shaped.plan.budget l.job
