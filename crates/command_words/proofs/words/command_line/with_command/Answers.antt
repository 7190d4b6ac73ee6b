use Rattle.std.proofs.lemmas.Result.{IfOk-weaker, IfOk-at_ok}
use Rattle.command_words.specs.CommandLine.{Describes, leaf}
use Rattle.command_words.proofs.words.Described.{with_command}
use Rattle.command_words.proofs.words.command_line.with_command.Goals as goal

pub returns-in-Ok : goal.returns-in-Ok
returns-in-Ok c = λ a s before described.
    IfOk-weaker c.subcommand.result _ _ (λ new added. with_command a s c.args.program c.in-Ok.command new before
    (IfOk-at_ok (Describes (leaf s)) c.in-Ok.is described) added) c.subcommand.ensures
