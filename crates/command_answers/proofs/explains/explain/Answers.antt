use Rattle.std.proofs.Common.{refl}
use Rattle.command_answers.specs.declared.command_fault.CommandFault.TheVariants.{Memory}
use Rattle.command_answers.specs.Checks.{IsLoaded}
use Rattle.command_answers.specs.Explains.{IsExplanation}
use Rattle.command_answers.specs.Parsed.{AreTextsAnswered}
use Rattle.command_answers.specs.Steps.{IsOrMemory}
use Rattle.command_answers.proofs.Passing.{at_fault, passed_on, next_answered}
use Rattle.command_answers.proofs.CheckLines.{loaded_evidence, explanation_of_loaded}
use Rattle.command_answers.proofs.explains.explain.Goals as goal

pub loaded_explained-requires : goal.loaded_explained-requires
loaded_explained-requires c = loaded_evidence _ _ c.in_ok-loaded.ensures.found.is

pub returns-in_err-loaded : goal.returns-in_err-loaded
returns-in_err-loaded c = at_fault (AreTextsAnswered _ _ _ IsExplanation) c.from_residual.result c.in_err-loaded.field-0.0 c.from_residual.ensures.1
    (passed_on _ _ _ IsLoaded IsExplanation c.in_err-loaded.field-0.0 c.in_err-loaded.ensures)

pub returns-in_err-loaded_explained : goal.returns-in_err-loaded_explained
returns-in_err-loaded_explained c = next_answered _ _ _ IsLoaded IsExplanation c.in_ok-loaded.loaded c.from_residual-in_err-loaded_explained.result c.in_ok-loaded.ensures
    (λ p is. at_fault (IsOrMemory (IsExplanation p)) c.from_residual-in_err-loaded_explained.result Memory c.from_residual-in_err-loaded_explained.ensures.1 refl)

pub returns : goal.returns
returns c = next_answered _ _ _ IsLoaded IsExplanation c.in_ok-loaded.loaded _ c.in_ok-loaded.ensures (λ p is. explanation_of_loaded p _ _ is c.in_ok-loaded_explained.ensures)
