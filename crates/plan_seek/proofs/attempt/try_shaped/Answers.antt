use Rattle.std.proofs.Common.{rules}
use Rattle.plan_seek.proofs.attempt.try_shaped.Goals as goal

pub returns-in-Ok-Accepted : goal.returns-in-Ok-Accepted
returns-in-Ok-Accepted c = search rules depth 2
