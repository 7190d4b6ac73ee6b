use Rattle.std.proofs.Common.{rules}
use Rattle.plan_seek.proofs.task.Task.not_found.Goals as goal

pub returns-clause-reason : goal.returns-clause-reason
returns-clause-reason c = search rules depth 2
