use Rattle.std.proofs.Common.{inl, inr, refl}
use Rattle.text_lines.specs.Lines.{lines_of}
use Rattle.command_answers.specs.LogLines.{IsLogRefused}
use Rattle.command_answers.specs.Pictures.{IsLogDrawn}
use Rattle.command_answers.specs.Steps.{IsOrMemory}
use Rattle.command_answers.proofs.Passing.{at_fault}
use Rattle.command_answers.proofs.LogAnswers.{refused_log}
use Rattle.command_answers.proofs.pictures.log_drawn.Goals as goal

pub returns-in_ok-picture-in-Ok : goal.returns-in_ok-picture-in-Ok
returns-in_ok-picture-in-Ok c = inl (record { run = c.in-Ok.found; is = c.in-Ok.ensures.kept; drawn = c.in_ok-picture-in-Ok.ensures }, refl)

pub returns-in_ok-log_fault_answer-in-Err : goal.returns-in_ok-log_fault_answer-in-Err
returns-in_ok-log_fault_answer-in-Err c =
    let p = c.args.shaped.now in
    let lines = lines_of c.args.log.now in
    inr (refused_log p lines (IsLogRefused p lines) (λ answer line. line) c.in-Err.fault _ c.in-Err.ensures.fault c.in_ok-log_fault_answer-in-Err.ensures)

pub returns-in_err-log_fault_answer-in-Err : goal.returns-in_err-log_fault_answer-in-Err
returns-in_err-log_fault_answer-in-Err c =
    let p = c.args.shaped.now in
    let lines = lines_of c.args.log.now in
    at_fault (IsOrMemory (IsLogDrawn c.args.names p c.args.log.now)) c.from_residual-in_err-log_fault_answer-in-Err.result c.in_err-log_fault_answer-in-Err.field-0.0 c.from_residual-in_err-log_fault_answer-in-Err.ensures.1
    (refused_log p lines (IsLogRefused p lines) (λ answer line. line) c.in-Err.fault _ c.in-Err.ensures.fault c.in_err-log_fault_answer-in-Err.ensures)
