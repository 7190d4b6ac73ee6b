use Rattle.std.proofs.Common.{rules}
use Rattle.plan_text.proofs.keys.PlanKeyDisplay.fmt.Goals as goal

pub returns-clause-writes : goal.returns-clause-writes
returns-clause-writes c = search rules depth 2
