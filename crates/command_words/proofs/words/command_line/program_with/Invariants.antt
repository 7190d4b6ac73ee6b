use Rattle.std.proofs.Common.{take}
use Rattle.command_words.specs.CommandLine.{Describes, program_with}
use Rattle.command_words.proofs.words.command_line.program_with.Given as goal

abbrev pub invariant-loop-name : goal.invariant-loop-name
invariant-loop-name l = Describes (program_with (take l.name-index l.names)) l.program
