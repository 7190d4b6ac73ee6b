use Rattle.plan_explain.proofs.Texts.{none_added, one_more_added}
use Rattle.plan_schedule.specs.Calendars.{IsJobTextBy}
use Rattle.plan_schedule.proofs.scheduling.push_jobs.Goals as goal

pub loop-job-init : goal.loop-job-init
loop-job-init g c = none_added (IsJobTextBy c.args.names.now c.args.calendar.now) 0 _

pub loop-job-preserved : goal.loop-job-preserved
loop-job-preserved g c = one_more_added (IsJobTextBy c.args.names.now c.args.calendar.now) 0 c.loop-job.job _ _ _ c.loop-job.invariant c.in_ok-push_job.ensures
