use Rattle.std.proofs.Common.{rules}
use Rattle.plan_verifier.specs.Leavings.{leaves_in}
use Rattle.plan_explain.proofs.Moments.{words_more}
use Rattle.plan_explain.proofs.first_lines.push_leavings.Goals as goal

pub loop-job-preserved : goal.loop-job-preserved
loop-job-preserved g c =
    words_more _ _ _ (leaves_in (g.P.Planned.planned c.args.plan.now) c.args.times.now) c.loop-job.job _ c.loop-job.invariant c.leave_time.ensures c.in_ok-push_moment.ensures

pub loop-job-init : goal.loop-job-init
loop-job-init g c = search rules depth 2
