use Rattle.std.specs.Option.{option_copied}
use Rattle.command_answers.specs.Pictures.{IsLogDrawn}
use Rattle.command_answers.specs.Steps.{IsOrMemory}
use Rattle.command_answers.proofs.NamesAndLogs.{read_on}
use Rattle.command_answers.proofs.pictures.shaped_log.Goals as goal

pub returns : goal.returns
returns g c =
    read_on g.T.Texts.gives (option_copied c.args.names) c.args.log.now c.args.shaped.now (λ book log. IsOrMemory (IsLogDrawn book c.args.shaped.now log)) c.args.texts.now
    c.names_and_log.new.texts c.in_ok-read.read c.log_drawn-drawn.result (rw (← c.in_ok-read.was) c.names_and_log.ensures) (rw (← c.deref.ensures.value) c.log_drawn-drawn.ensures)
