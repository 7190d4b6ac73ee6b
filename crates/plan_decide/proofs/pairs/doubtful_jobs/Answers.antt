use Rattle.plan_decide.proofs.Collecting.{counted_none}
use Rattle.plan_decide.proofs.pairs.doubtful_jobs.Goals as goal

pub loop-job-init : goal.loop-job-init
loop-job-init c = counted_none c.args.standings.now
