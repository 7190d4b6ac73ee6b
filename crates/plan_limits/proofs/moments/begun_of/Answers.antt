use Rattle.std.proofs.Common.{rules}
use Rattle.plan_limits.proofs.moments.begun_of.Goals as goal

pub returns-in-Some : goal.returns-in-Some
returns-in-Some g c = search rules
