use Rattle.std.proofs.Common.{refl}
use Rattle.command_answers.specs.declared.command_fault.CommandFault.TheVariants.{Memory}
use Rattle.command_answers.specs.Checks.{IsLoaded, IsCheckLine}
use Rattle.command_answers.specs.Parsed.{AreTextsAnswered}
use Rattle.command_answers.specs.Steps.{IsOrMemory}
use Rattle.command_answers.proofs.Passing.{at_fault, passed_on, next_answered}
use Rattle.command_answers.proofs.CheckLines.{line_of_loaded}
use Rattle.command_answers.proofs.checks.check.Goals as goal

pub returns-in_err-loaded : goal.returns-in_err-loaded
returns-in_err-loaded c = at_fault (AreTextsAnswered _ _ _ IsCheckLine) c.from_residual.result c.in_err-loaded.field-0.0 c.from_residual.ensures.1
    (passed_on _ _ _ IsLoaded IsCheckLine c.in_err-loaded.field-0.0 c.in_err-loaded.ensures)

pub returns-in_err-loaded_answer : goal.returns-in_err-loaded_answer
returns-in_err-loaded_answer c = next_answered _ _ _ IsLoaded IsCheckLine c.in_ok-loaded.loaded c.from_residual-in_err-loaded_answer.result c.in_ok-loaded.ensures
    (λ p is. at_fault (IsOrMemory (IsCheckLine p)) c.from_residual-in_err-loaded_answer.result Memory c.from_residual-in_err-loaded_answer.ensures.1 refl)

pub returns : goal.returns
returns c = next_answered _ _ _ IsLoaded IsCheckLine c.in_ok-loaded.loaded _ c.in_ok-loaded.ensures (λ p is. line_of_loaded p _ _ is c.in_ok-loaded_answer.ensures)
