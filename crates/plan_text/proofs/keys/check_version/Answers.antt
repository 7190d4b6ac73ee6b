use Rattle.std.proofs.Common.{rules}
use Rattle.plan_text.proofs.keys.check_version.Goals as goal

pub returns-in-Some-eq2-clause-faults : goal.returns-in-Some-eq2-clause-faults
returns-in-Some-eq2-clause-faults c = search rules depth 2

pub returns-in-Some-eq2-clause-value : goal.returns-in-Some-eq2-clause-value
returns-in-Some-eq2-clause-value c = search rules depth 2
