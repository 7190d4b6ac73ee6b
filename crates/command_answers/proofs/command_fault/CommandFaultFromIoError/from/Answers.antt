use Rattle.std.proofs.Common.{rules}
use Rattle.command_answers.proofs.command_fault.CommandFaultFromIoError.from.Goals as goal

pub returns-in-OutOfMemory : goal.returns-in-OutOfMemory
returns-in-OutOfMemory c = search rules depth 2
