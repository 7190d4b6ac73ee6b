use Rattle.plan_verifier.specs.Leavings.{leaves_in}
use Rattle.plan_verifier.proofs.LastLeavings.{IsLatestBelow}
use Rattle.plan_verifier.proofs.leavings.makespan.Given as goal

-- the latest of the leavings looked at
abbrev pub invariant-loop-job : goal.invariant-loop-job
invariant-loop-job g l = IsLatestBelow (g.P.Planned.planned l.plan) (leaves_in (g.P.Planned.planned l.plan) l.times) l.job l.makespan
