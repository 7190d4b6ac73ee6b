use Rattle.std.proofs.Common.{rules}
use Rattle.command_answers.proofs.margins.verified_margin.Goals as goal

pub returns : goal.returns
returns c = search rules depth 2
