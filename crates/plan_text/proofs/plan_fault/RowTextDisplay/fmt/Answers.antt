use Rattle.std.proofs.Common.{rules}
use Rattle.plan_text.proofs.plan_fault.RowTextDisplay.fmt.Goals as goal

pub returns-in-Some-clause-writes : goal.returns-in-Some-clause-writes
returns-in-Some-clause-writes c = search rules depth 2
