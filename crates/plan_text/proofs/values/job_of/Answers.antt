use Rattle.std.proofs.Common.{rules}
use Rattle.plan_text.proofs.values.job_of.Goals as goal

pub overflow_cast-result : goal.overflow_cast-result
overflow_cast-result c = search rules depth 2

pub returns-clause-faults : goal.returns-clause-faults
returns-clause-faults c = search rules depth 2

pub returns-clause-value : goal.returns-clause-value
returns-clause-value c = search rules depth 2
