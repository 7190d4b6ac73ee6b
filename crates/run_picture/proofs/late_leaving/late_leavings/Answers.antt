use Rattle.std.proofs.Common.{ap, ◌∙◌}
use Rattle.run_picture.specs.Late.{late_leaving}
use Rattle.run_picture.proofs.LateLeavings.{one_more}
use Rattle.run_picture.proofs.late_leaving.late_leavings.Goals as goal

pub loop-job-preserved : goal.loop-job-preserved
loop-job-preserved c =
    let p = c.args.shaped.now in
    let j = c.loop-job.job in
    one_more p c.args.leavings.now _ _ j _ c.loop-job.invariant (c.late_leaving.ensures ∙ ap (late_leaving p j) c.leaving_at.ensures) c.in_ok-push.ensures.items
