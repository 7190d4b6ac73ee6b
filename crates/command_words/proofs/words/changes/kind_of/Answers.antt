use Rattle.std.proofs.Common.{rules}
use Rattle.command_words.proofs.words.changes.kind_of.Goals as goal

pub returns-in-Add : goal.returns-in-Add
returns-in-Add c = search rules depth 2
