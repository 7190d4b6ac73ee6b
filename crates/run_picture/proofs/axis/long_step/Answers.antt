use Rattle.run_picture.proofs.Steps.{first_steps, next_steps}
use Rattle.run_picture.proofs.axis.long_step.Goals as goal

pub loop-next-init : goal.loop-next-init
loop-next-init c = first_steps c.args.begin c.args.last c.args.unit c.requires.above

pub loop-next-preserved : goal.loop-next-preserved
loop-next-preserved c = next_steps _ _ _ _ _ _ c.loop-next.invariant (c.has_few.ensures.many c.loop-next-test.true)
