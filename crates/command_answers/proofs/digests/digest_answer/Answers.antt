use Rattle.std.proofs.Common.{inl, inr, refl}
use Rattle.command_answers.specs.declared.command_fault.CommandFault.TheVariants.{Memory}
use Rattle.command_answers.specs.Digests.{IsDigestAnswer}
use Rattle.command_answers.specs.Shapes.{IsNotShapedLine}
use Rattle.command_answers.specs.Steps.{IsOrMemory}
use Rattle.command_answers.proofs.Passing.{at_fault}
use Rattle.command_answers.proofs.ShapedPlans.{line_of_first, or_memory, passed_on, shaped_on, unshaped_on}
use Rattle.command_answers.proofs.digests.digest_answer.Goals as goal

pub returns-in_err-shaped : goal.returns-in_err-shaped
returns-in_err-shaped g c =
    passed_on g.T.Texts.gives _ _ c.args.texts.now c.shape_files.new.texts c.shape_files.result c.shape_files.ensures c.in_err-shaped.field-0.0 c.from_residual.result c.in_err-shaped.was c.from_residual.ensures.1
    (λ p. (refl, refl))

pub returns-in_ok-answer-in-Ok : goal.returns-in_ok-answer-in-Ok
returns-in_ok-answer-in-Ok g c =
    shaped_on g.T.Texts.gives _ _ c.args.texts.now c.shape_files.new.texts c.shape_files.result c.shape_files.ensures c.in_ok-shaped.field-0 c.in-Ok.shaped _ c.shape_files.new.texts c.in_ok-shaped.was c.in-Ok.is
    (λ well. (inl (record { well_shaped = well; line = c.in_ok-answer-in-Ok.ensures.0; good = c.in_ok-answer-in-Ok.ensures.1 }), refl))

pub returns-in_err-answer-in-Ok : goal.returns-in_err-answer-in-Ok
returns-in_err-answer-in-Ok g c =
    shaped_on g.T.Texts.gives _ _ c.args.texts.now c.shape_files.new.texts c.shape_files.result c.shape_files.ensures c.in_ok-shaped.field-0 c.in-Ok.shaped c.from_residual-in_err-answer-in-Ok.result c.shape_files.new.texts
    c.in_ok-shaped.was c.in-Ok.is
    (λ well. (at_fault (IsOrMemory (IsDigestAnswer c.in-Ok.shaped)) c.from_residual-in_err-answer-in-Ok.result Memory c.from_residual-in_err-answer-in-Ok.ensures.1 refl, refl))

pub returns-in-Err : goal.returns-in-Err
returns-in-Err g c =
    unshaped_on g.T.Texts.gives _ _ c.args.texts.now c.shape_files.new.texts c.shape_files.result c.shape_files.ensures c.in_ok-shaped.field-0 c.in-Err.fault c.unshaped_answer.result c.shape_files.new.texts
    c.in_ok-shaped.was c.in-Err.is
    (λ p first. (or_memory (IsNotShapedLine p) (IsDigestAnswer p) c.unshaped_answer.result (λ answer line. inr line) (line_of_first p c.in-Err.fault c.unshaped_answer.result first c.unshaped_answer.ensures), refl))
