use Rattle.arc_choice.specs.Choices.{IsImpossible}
use Rattle.plan_limits.specs.Stages.{stage_of}
use Rattle.plan_limits.proofs.Asks.{at_never, no_plan_keeps}
use Rattle.plan_limits.proofs.asking.ask.Goals as goal

pub returns-in-Never : goal.returns-in-Never
returns-in-Never g c =
    no_plan_keeps (stage_of c.args.cell.now.plan c.args.cell.now.cell c.args.present) c.deref.result.now c.args.limits.now c.in_ok-question.question
    (record { present = c.requires.in_range; cleanings = c.cleanings_in_range.ensures }) c.in_ok-question.ensures.asks
    (at_never (IsImpossible c.in_ok-question.question) c.in_ok-outcome.field-0 c.in-Never.is c.in_ok-outcome.ensures)

pub returns : goal.returns
returns g c = tt
