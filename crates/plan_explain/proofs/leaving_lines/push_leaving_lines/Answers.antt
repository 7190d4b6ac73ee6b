use Rattle.plan_explain.proofs.Texts.{text_more}
use Rattle.plan_explain.proofs.leaving_lines.push_leaving_lines.Goals as goal

pub loop-job-preserved : goal.loop-job-preserved
loop-job-preserved g c = text_more _ _ _ _ c.loop-job.job c.loop-job.invariant (rw c.leave_time-leaves.ensures at c.in_ok-push_job_line.ensures)
