use Rattle.std.proofs.Common.{rules}
use Rattle.plan_text.proofs.values.moment_of.Goals as goal

pub returns-then-number-lt0-clause-faults : goal.returns-then-number-lt0-clause-faults
returns-then-number-lt0-clause-faults c = search rules depth 2
