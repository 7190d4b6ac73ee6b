use Rattle.std.proofs.lemmas.Result.{IfOk-at_ok}
use Rattle.command_words.specs.CommandLine.{Describes}
use Rattle.command_words.proofs.words.Described.{next_command}
use Rattle.command_words.proofs.words.command_line.program_with.Goals as goal

pub loop-name-preserved : goal.loop-name-preserved
loop-name-preserved c =
    next_command c.args.names.now c.loop-name.name-index _ c.in_ok-program.program c.loop-name-test.true
    (IfOk-at_ok (Describes _) c.in_ok-program.was (c.with_command.ensures _ _ c.loop-name.invariant c.command_of.ensures))
