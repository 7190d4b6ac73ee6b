use Rattle.std.proofs.Common.{rules}
use Rattle.plan_text.proofs.read.plan_of.Goals as goal

pub returns-in_err-check_missing-clause-faults : goal.returns-in_err-check_missing-clause-faults
returns-in_err-check_missing-clause-faults c = search rules depth 2
