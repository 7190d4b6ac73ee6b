use Rattle.std.proofs.Common.{rules}
use Rattle.run_picture.proofs.late_leaving.late_leaving.Goals as goal

pub returns-then-budget_of-at : goal.returns-then-budget_of-at
returns-then-budget_of-at c = search rules

pub returns : goal.returns
returns c = search rules
