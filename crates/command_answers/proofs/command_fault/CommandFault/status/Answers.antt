use Rattle.std.proofs.Common.{rules}
use Rattle.command_answers.proofs.command_fault.CommandFault.status.Goals as goal

pub returns-in-Instance : goal.returns-in-Instance
returns-in-Instance c = search rules depth 2

pub returns-in-Instance-2 : goal.returns-in-Instance-2
returns-in-Instance-2 c = search rules depth 2
