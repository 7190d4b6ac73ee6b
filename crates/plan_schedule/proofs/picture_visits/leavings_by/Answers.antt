use Rattle.alt_graph.specs.Times.{earliest_of}
use Rattle.plan_schedule.proofs.Drawing.{one_more_leaving}
use Rattle.plan_schedule.proofs.picture_visits.leavings_by.Goals as goal

pub loop-job-preserved : goal.loop-job-preserved
loop-job-preserved g c =
    one_more_leaving c.args.rest.now.plan (earliest_of c.args.times.now) _ _ c.loop-job.job _ c.loop-job.invariant c.leave_time.ensures c.in_ok-push.ensures.items
