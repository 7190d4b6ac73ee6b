use Rattle.std.proofs.Common.{rules}
use Rattle.plan_text.proofs.values.row_in.Goals as goal

pub returns-in-Some-clause-faults : goal.returns-in-Some-clause-faults
returns-in-Some-clause-faults c = search rules depth 2
