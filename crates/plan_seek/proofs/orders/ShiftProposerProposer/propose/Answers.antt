use Rattle.std.proofs.Common.{rules}
use Rattle.plan_seek.proofs.orders.ShiftProposerProposer.propose.Goals as goal

pub returns : goal.returns
returns c = search rules depth 2
