use Rattle.std.proofs.Common.{refl}
use Rattle.command_answers.specs.declared.command_fault.CommandFault.TheVariants.{Memory}
use Rattle.command_answers.specs.Shapes.{IsShapeLine}
use Rattle.command_answers.specs.Steps.{IsOrMemory}
use Rattle.command_answers.proofs.Passing.{at_fault}
use Rattle.command_answers.proofs.ShapedPlans.{found_on, line_found, passed_on}
use Rattle.command_answers.proofs.shapes.shape_answer.Goals as goal

pub returns-in_err-found : goal.returns-in_err-found
returns-in_err-found g c =
    passed_on g.T.Texts.gives _ _ c.args.texts.now c.shape_files.new.texts c.shape_files.result c.shape_files.ensures c.in_err-found.field-0.0 c.from_residual.result c.in_err-found.was c.from_residual.ensures.1
    (λ p. (refl, refl))

pub returns-in_err-found_answer : goal.returns-in_err-found_answer
returns-in_err-found_answer g c =
    found_on g.T.Texts.gives _ _ c.args.texts.now c.shape_files.new.texts c.shape_files.result c.shape_files.ensures c.in_ok-found.found c.from_residual-in_err-found_answer.result c.shape_files.new.texts c.in_ok-found.was
    (λ p is. (at_fault (IsOrMemory (IsShapeLine p)) c.from_residual-in_err-found_answer.result Memory c.from_residual-in_err-found_answer.ensures.1 refl, refl))

pub returns : goal.returns
returns g c =
    found_on g.T.Texts.gives _ _ c.args.texts.now c.shape_files.new.texts c.shape_files.result c.shape_files.ensures c.in_ok-found.found _ c.shape_files.new.texts c.in_ok-found.was
    (λ p is. (line_found p c.in_ok-found.found _ is c.in_ok-found_answer.ensures, refl))
