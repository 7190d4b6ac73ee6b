use Rattle.std.proofs.Common.{rules}
use Rattle.plan_text.proofs.values.moments_in.Goals as goal

pub returns-in-None-clause-faults : goal.returns-in-None-clause-faults
returns-in-None-clause-faults c = search rules depth 2
