use Rattle.run_picture.proofs.Steps.{short_is, long_is}
use Rattle.run_picture.proofs.axis.step_for.Goals as goal

pub returns-in-Some : goal.returns-in-Some
returns-in-Some c = short_is c.args.clock c.args.begin c.args.last c.in-Some.step _ c.short_steps.ensures.are c.in-Some.ensures

pub returns-in-None : goal.returns-in-None
returns-in-None c =
    long_is c.args.clock c.args.begin c.args.last c.long_step.result _ c.long_unit.result c.short_steps.ensures.are c.long_unit.ensures.is c.in-None.ensures c.long_step.ensures
