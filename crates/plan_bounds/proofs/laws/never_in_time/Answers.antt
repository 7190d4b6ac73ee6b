use Rattle.plan_bounds.proofs.Bounded.{never_in_time-holds}
use Rattle.plan_bounds.proofs.laws.never_in_time.Goals as goal

pub returns : goal.returns
returns c = never_in_time-holds
