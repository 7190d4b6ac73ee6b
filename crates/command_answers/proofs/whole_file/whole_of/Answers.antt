use Rattle.std.proofs.Common.{rules}
use Rattle.command_answers.proofs.whole_file.whole_of.Goals as goal

pub returns-in-Ok-2-clause-within : goal.returns-in-Ok-2-clause-within
returns-in-Ok-2-clause-within c = search rules depth 2

pub returns-in-Ok-2-clause-beyond : goal.returns-in-Ok-2-clause-beyond
returns-in-Ok-2-clause-beyond c = search rules depth 2
