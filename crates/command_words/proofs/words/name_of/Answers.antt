use Rattle.std.proofs.Common.{rules}
use Rattle.command_words.proofs.words.name_of.Goals as goal

pub returns-in-audit : goal.returns-in-audit
returns-in-audit c = search rules depth 2
