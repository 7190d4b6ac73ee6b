use Rattle.std.proofs.Common.{Some}
use Rattle.std.specs.Option.{option_copied}
use Rattle.command_answers.specs.KnownRests.{IsFoundRest}
use Rattle.command_answers.specs.Steps.{IsOrMemory}
use Rattle.command_answers.proofs.NamesAndLogs.{read_on}
use Rattle.command_answers.proofs.known_rests.logged_rest.Goals as goal

pub returns-in-Ok-clause-asks : goal.returns-in-Ok-clause-asks
returns-in-Ok-clause-asks g c =
    read_on g.T.Texts.gives (option_copied c.args.names) c.args.log.now c.args.shaped (λ book log. IsOrMemory (IsFoundRest c.args.at c.args.shaped book (Some log))) c.args.texts.now
    c.names_and_log.new.texts c.in-Ok.read c.log_rest.result (rw (← c.in-Ok.is) c.names_and_log.ensures) c.log_rest.ensures.found
