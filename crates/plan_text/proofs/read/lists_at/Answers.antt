use Rattle.std.proofs.Common.{rules}
use Rattle.plan_text.proofs.read.lists_at.Goals as goal

pub returns-in_err-order-clause-faults : goal.returns-in_err-order-clause-faults
returns-in_err-order-clause-faults c = search rules depth 2

pub returns-in_err-clean-clause-faults : goal.returns-in_err-clean-clause-faults
returns-in_err-clean-clause-faults c = search rules depth 2

pub returns-clause-faults : goal.returns-clause-faults
returns-clause-faults c = search rules depth 2

pub returns-clause-value : goal.returns-clause-value
returns-clause-value c = search rules depth 2
