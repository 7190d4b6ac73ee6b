use Rattle.plan_limits.proofs.Acceptance.{acceptable_plans_keep_limits-holds}
use Rattle.plan_limits.proofs.laws.acceptable_plans_keep_limits.Goals as goal

pub returns : goal.returns
returns c = acceptable_plans_keep_limits-holds
