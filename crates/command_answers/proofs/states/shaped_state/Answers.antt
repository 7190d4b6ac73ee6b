use Rattle.std.specs.Option.{option_copied}
use Rattle.command_answers.specs.Steps.{IsOrMemory}
use Rattle.command_answers.specs.States.{IsStateLine}
use Rattle.command_answers.proofs.NamesAndLogs.{read_on}
use Rattle.command_answers.proofs.states.shaped_state.Goals as goal

pub returns-in-Ok : goal.returns-in-Ok
returns-in-Ok g c =
    read_on g.T.Texts.gives (option_copied c.args.names) c.args.log.now c.args.shaped (λ book log. IsOrMemory (IsStateLine book c.args.at c.args.shaped log)) c.args.texts.now
    c.names_and_log.new.texts c.in-Ok.read c.logged_state.result (rw (← c.in-Ok.is) c.names_and_log.ensures) c.logged_state.ensures
