use Rattle.std.proofs.Common.{rules}
use Rattle.plan_seek.proofs.rounds.try_proposer.Goals as goal

pub returns-in-Err : goal.returns-in-Err
returns-in-Err g c = search rules depth 2
