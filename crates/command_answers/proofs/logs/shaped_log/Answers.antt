use Rattle.std.specs.Prelude.{Result}
use Rattle.std.specs.Option.{option_copied}
use Rattle.command_answers.specs.declared.answer.Answer.{Answer}
use Rattle.command_answers.specs.declared.command_fault.CommandFault.{CommandFault}
use Rattle.command_answers.specs.Commands.{WithNamesAndLog}
use Rattle.command_answers.specs.LogLines.{IsLogLine}
use Rattle.command_answers.specs.Steps.{IsOrMemory}
use Rattle.command_answers.proofs.NamesAndLogs.{read_on, unread}
use Rattle.command_answers.proofs.Passing.{at_fault}
use Rattle.command_answers.proofs.logs.shaped_log.Goals as goal

pub returns : goal.returns
returns g c =
    read_on g.T.Texts.gives (option_copied c.args.names) c.args.log.now c.args.shaped.now (λ book log. IsOrMemory (IsLogLine book c.args.wanted c.args.shaped.now log)) c.args.texts.now
    c.names_and_log.new.texts c.in_ok-read.read c.audited-answer.result (rw (← c.in_ok-read.was) c.names_and_log.ensures) (rw (← c.deref.ensures.value) c.audited-answer.ensures)

pub returns-in_err-read : goal.returns-in_err-read
returns-in_err-read g c =
    at_fault (λ (r : Result Answer CommandFault). WithNamesAndLog g.T.Texts.gives (option_copied c.args.names) c.args.log.now c.args.shaped.now (λ book. IsLogLine book c.args.wanted c.args.shaped.now) c.args.texts.now r c.names_and_log.new.texts)
    c.from_residual.result c.in_err-read.field-0.0 c.from_residual.ensures.1
    (unread g.T.Texts.gives (option_copied c.args.names) c.args.log.now c.args.shaped.now (λ book log. IsOrMemory (IsLogLine book c.args.wanted c.args.shaped.now log)) c.args.texts.now c.names_and_log.new.texts c.in_err-read.field-0.0
    (rw (← c.in_err-read.was) c.names_and_log.ensures))
