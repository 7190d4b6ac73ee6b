use Rattle.std.proofs.Common.{below_more, rules}
use Rattle.cell_control.proofs.dispatching.first_mover.Goals as goal

pub loop-job-preserved : goal.loop-job-preserved
loop-job-preserved g c = below_more _ _ c.loop-job.invariant (λ can. cc (c.if-can_move.ensures.1 can))

pub loop-job-init : goal.loop-job-init
loop-job-init g c = search rules
