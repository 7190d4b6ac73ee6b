use Rattle.plan_limits.proofs.Acceptance.{the_start_is_every_plan-holds}
use Rattle.plan_limits.proofs.laws.the_start_is_every_plan.Goals as goal

pub returns : goal.returns
returns c = the_start_is_every_plan-holds
