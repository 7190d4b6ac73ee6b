use Rattle.std.proofs.Common.{sym, subst}
use Rattle.plan_decide.specs.LeftOut.{AreLimited}
use Rattle.plan_decide.proofs.Leaving.{limited_none}
use Rattle.plan_decide.proofs.leaving_out.limited_jobs.Goals as goal

pub loop-job-init : goal.loop-job-init
loop-job-init g c = subst (AreLimited c.args.limits.now 0) (sym c.new-found.ensures.items) (limited_none c.args.limits.now)
