use Rattle.plan_decide.specs.Settings.{case_in}
use Rattle.plan_decide.proofs.Collecting.{standings_more}
use Rattle.plan_decide.proofs.standing.standings.Goals as goal

pub loop-job-preserved : goal.loop-job-preserved
loop-job-preserved g c =
    standings_more (case_in c.args.setting.now) c.loop-job.job c.loop-job.found.items c.push.new.self.items c.in_ok-found_standing.field-0 c.in_ok-push.ensures.items c.in_ok-found_standing.ensures c.loop-job.invariant
