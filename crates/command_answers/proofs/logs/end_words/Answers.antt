use Rattle.std.proofs.Common.{rules}
use Rattle.command_answers.proofs.logs.end_words.Goals as goal

pub returns-else-complete : goal.returns-else-complete
returns-else-complete c = search rules depth 2
