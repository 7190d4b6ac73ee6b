use Rattle.plan_decide.proofs.Lawful.{no_continuation_keeps_them-holds}
use Rattle.plan_decide.proofs.laws.no_continuation_keeps_them.Goals as goal

pub returns : goal.returns
returns c = no_continuation_keeps_them-holds
