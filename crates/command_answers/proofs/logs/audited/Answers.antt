use Rattle.std.proofs.Common.{inl, inr}
use Rattle.text_lines.specs.Lines.{lines_of}
use Rattle.command_answers.specs.LogLines.{IsLogLine}
use Rattle.command_answers.proofs.LogAnswers.{refused_log}
use Rattle.command_answers.proofs.logs.audited.Goals as goal

pub returns-in_ok-answer_run-in-Ok : goal.returns-in_ok-answer_run-in-Ok
returns-in_ok-answer_run-in-Ok c = inl (record { run = c.in-Ok.found; is = c.in-Ok.ensures.kept; answered = c.in_ok-answer_run-in-Ok.ensures })

pub returns-in-Err : goal.returns-in-Err
returns-in-Err c =
    refused_log c.args.shaped.now (lines_of c.args.log.now) (IsLogLine c.args.names.now c.args.wanted c.args.shaped.now c.args.log.now) (λ answer refused. inr refused)
    c.in-Err.fault c.log_fault_answer.result c.in-Err.ensures.fault c.log_fault_answer.ensures
