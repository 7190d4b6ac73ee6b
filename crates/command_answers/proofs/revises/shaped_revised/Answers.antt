use Rattle.std.specs.Option.{option_copied}
use Rattle.command_answers.specs.Asked.{asked}
use Rattle.command_answers.specs.Revising.{IsReviseAnswer}
use Rattle.command_answers.proofs.NamesAndLogs.{read_on, unread}
use Rattle.command_answers.proofs.revises.shaped_revised.Goals as goal

pub returns-in-Ok : goal.returns-in-Ok
returns-in-Ok g c =
    read_on g.T.Texts.gives (option_copied c.args.wanted.names) c.args.log.now c.args.shaped (λ book log. IsReviseAnswer (asked c.args.wanted) c.args.description.now c.args.shaped book log) c.args.texts.now
    c.names_and_log.new.texts c.in-Ok.read c.log_revised-answer.result (rw (← c.in-Ok.is) c.names_and_log.ensures) (rw (← c.deref.ensures.value) c.log_revised-answer.ensures)

pub returns-in-Err : goal.returns-in-Err
returns-in-Err g c =
    unread g.T.Texts.gives (option_copied c.args.wanted.names) c.args.log.now c.args.shaped (λ book log. IsReviseAnswer (asked c.args.wanted) c.args.description.now c.args.shaped book log) c.args.texts.now
    c.names_and_log.new.texts c.in-Err.fault (rw (← c.in-Err.is) c.names_and_log.ensures)
