use Rattle.std.proofs.Common.{◌<◌, length, ap, arith}
use Rattle.shop_base.specs.Plan.{PlannedShop, jobs}
use Rattle.plan_revise.proofs.Written.{length_lists}
use Rattle.plan_revise.proofs.Revisions.{stage_first, stage_next}
use Rattle.plan_revise.proofs.draft.Draft.do_without.Goals as goal

pub loop-job-init : goal.loop-job-init
loop-job-init g c = stage_first c.args.run.now c.args.self.now c.args.machine c.requires.revision

pub stop_at-requires-clause-revision : goal.stop_at-requires-clause-revision
stop_at-requires-clause-revision g c = c.loop-job.invariant.revision

pub loop-job-preserved : goal.loop-job-preserved
loop-job-preserved g c =
    let inside : c.loop-job.job < jobs c.args.self.now = omega (arith, ap (λ (q : PlannedShop). length q.shop.routes) c.self.view_is, length_lists c.self.inside.routes.items) in
    stage_next c.args.run.now c.plant-plant.ensures.sound c.args.self.now c.args.machine c.loop-job.job c.loop-job.self c.stop_at.new.self c.loop-job.invariant inside c.in_ok-stop_at.ensures.done c.in_ok-stop_at.ensures.room
