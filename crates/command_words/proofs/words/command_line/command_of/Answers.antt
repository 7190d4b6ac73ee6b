use Rattle.std.proofs.Common.{rules}
use Rattle.command_words.proofs.words.command_line.command_of.Goals as goal

pub returns-in-Audit : goal.returns-in-Audit
returns-in-Audit c = search rules depth 2
