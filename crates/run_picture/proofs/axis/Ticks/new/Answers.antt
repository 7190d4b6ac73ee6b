use Rattle.run_picture.proofs.Steps.{named_by}
use Rattle.run_picture.proofs.axis.Ticks.new.Goals as goal

pub returns : goal.returns
returns c = named_by c.args.clock c.begin_of-begin.result c.args.last c.step_for-step.result _ c.begin_of-begin.ensures c.step_for-step.ensures c.by.ensures
