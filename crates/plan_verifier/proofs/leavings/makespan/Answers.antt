use Rattle.plan_verifier.proofs.LastLeavings.{latest_more}
use Rattle.plan_verifier.proofs.leavings.makespan.Goals as goal

pub loop-job-preserved : goal.loop-job-preserved
loop-job-preserved g c = rw c.later-makespan.ensures (latest_more _ _ _ _ _ c.loop-job.invariant c.leave_time.ensures)
