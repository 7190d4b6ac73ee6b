use Rattle.plan_limits.proofs.Farthest.{every_plan_gives_moments-holds}
use Rattle.plan_limits.proofs.laws.every_plan_gives_moments.Goals as goal

pub returns : goal.returns
returns c = every_plan_gives_moments-holds
