use Rattle.std.specs.Option.{option_copied}
use Rattle.text_lines.specs.Lines.{ended_lines}
use Rattle.command_answers.specs.DecidingRests.{IsRestDecisionAnswer}
use Rattle.command_answers.proofs.NamesAndLogs.{read_on, unread}
use Rattle.command_answers.proofs.rest_decides.logged_decided.Goals as goal

pub returns-in-Ok : goal.returns-in-Ok
returns-in-Ok g c =
    read_on g.T.Texts.gives (option_copied c.args.names) c.args.log.now c.args.shaped (λ book log. IsRestDecisionAnswer book c.args.at (ended_lines log) c.args.shaped c.args.aim) c.args.texts.now
    c.names_and_log.new.texts c.in-Ok.read c.rest_decided-answer.result (rw (← c.in-Ok.is) c.names_and_log.ensures) (rw (← c.deref.ensures.value) c.rest_decided-answer.ensures)

pub returns-in-Err : goal.returns-in-Err
returns-in-Err g c =
    unread g.T.Texts.gives (option_copied c.args.names) c.args.log.now c.args.shaped (λ book log. IsRestDecisionAnswer book c.args.at (ended_lines log) c.args.shaped c.args.aim) c.args.texts.now
    c.names_and_log.new.texts c.in-Err.fault (rw (← c.in-Err.is) c.names_and_log.ensures)
