use Rattle.std.proofs.Common.{rules}
use Rattle.command_answers.proofs.loading.Loaded.accepted.Goals as goal

pub returns-in_default : goal.returns-in_default
returns-in_default c = search rules depth 2
