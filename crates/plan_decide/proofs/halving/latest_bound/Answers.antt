use Rattle.plan_decide.specs.declared.aim.Objective.TheVariants.{Makespan}
use Rattle.plan_decide.specs.Settings.{case_in}
use Rattle.plan_decide.proofs.Bounded.{later_least, none_below}
use Rattle.plan_decide.proofs.halving.latest_bound.Goals as goal

pub loop-job-init : goal.loop-job-init
loop-job-init g c = none_below (case_in c.args.setting.now) Makespan

pub loop-job-preserved : goal.loop-job-preserved
loop-job-preserved g c =
    later_least (case_in c.args.setting.now) Makespan c.loop-job.bound c.earliest_out.result c.later-bound.result c.later-bound.ensures c.loop-job.invariant c.earliest_out.ensures.makespan
