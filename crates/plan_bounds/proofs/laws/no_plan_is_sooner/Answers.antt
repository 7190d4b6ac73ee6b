use Rattle.plan_bounds.proofs.Bounded.{no_plan_is_sooner-holds}
use Rattle.plan_bounds.proofs.laws.no_plan_is_sooner.Goals as goal

pub returns : goal.returns
returns c = no_plan_is_sooner-holds
