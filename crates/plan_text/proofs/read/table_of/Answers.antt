use Rattle.std.proofs.Common.{rules}
use Rattle.plan_text.proofs.read.table_of.Goals as goal

pub returns-in_default-clause-refused : goal.returns-in_default-clause-refused
returns-in_default-clause-refused c = search rules depth 2
