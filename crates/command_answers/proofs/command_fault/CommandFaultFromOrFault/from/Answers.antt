use Rattle.std.proofs.Common.{rules}
use Rattle.command_answers.proofs.command_fault.CommandFaultFromOrFault.from.Goals as goal

pub returns-in-Memory : goal.returns-in-Memory
returns-in-Memory c = search rules depth 2
