use Rattle.std.proofs.Common.{rules}
use Rattle.plan_text.proofs.document.plan_document.Goals as goal

pub returns-then-branch-clause-read_back : goal.returns-then-branch-clause-read_back
returns-then-branch-clause-read_back c = search rules depth 2

pub returns-else-branch-clause-not_read_back : goal.returns-else-branch-clause-not_read_back
returns-else-branch-clause-not_read_back c = search rules depth 2
