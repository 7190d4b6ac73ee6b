use Rattle.command_answers.specs.Checks.{IsLoaded}
use Rattle.command_answers.specs.Parsed.{AreTextsAnswered}
use Rattle.command_answers.proofs.Passing.{at_fault, refused_instance, refused_plan, texts_answered}
use Rattle.command_answers.proofs.loading.load.Goals as goal

pub returns-in_err-shop : goal.returns-in_err-shop
returns-in_err-shop c = at_fault (AreTextsAnswered _ _ _ IsLoaded) c.from_residual.result c.in_err-shop.field-0.0 c.from_residual.ensures.1
    (refused_instance _ _ _ IsLoaded c.in_err-shop.field-0.0 c.in_err-shop.ensures)

pub returns-in_err-plan : goal.returns-in_err-plan
returns-in_err-plan c = at_fault (AreTextsAnswered _ _ _ IsLoaded) c.from_residual-in_err-plan.result c.in_err-plan.field-0.0 c.from_residual-in_err-plan.ensures.1
    (refused_plan _ _ _ IsLoaded c.in_ok-shop.field-0 c.in_err-plan.field-0.0 c.in_ok-shop.ensures c.in_err-plan.ensures)

pub returns : goal.returns
returns c = texts_answered _ _ _ IsLoaded c.in_ok-shop.field-0 c.in_ok-plan.plan c.judged.result c.in_ok-shop.ensures c.in_ok-plan.ensures c.judged.ensures.loaded
