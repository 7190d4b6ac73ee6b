use Rattle.std.proofs.Common.{sym, append-nil}
use Rattle.plan_schedule.specs.Calendars.{at_of}
use Rattle.plan_schedule.proofs.Drawing.{one_more_job}
use Rattle.plan_schedule.proofs.picture_visits.push_ahead.Goals as goal

pub loop-job-init : goal.loop-job-init
loop-job-init g c = sym (append-nil _)

pub loop-job-preserved : goal.loop-job-preserved
loop-job-preserved g c =
    let k = c.args.calendar.now in one_more_job k.plan k.cell (at_of k) _ _ _ c.loop-job.job c.loop-job.invariant c.in_ok-push_job.ensures
