use Rattle.plan_verifier.specs.Leavings.{leaves_in}
use Rattle.plan_verifier.proofs.LastLeavings.{IsLastBelow}
use Rattle.plan_verifier.proofs.leavings.last_to_leave.Given as goal

-- the last to leave of the jobs looked at
abbrev pub invariant-loop-job : goal.invariant-loop-job
invariant-loop-job g l = IsLastBelow l.cell.plan (leaves_in l.cell.plan l.times) l.cell.cell l.job l.last
