use Rattle.plan_improve.proofs.Lawful.{rest_accepted}
use Rattle.plan_improve.proofs.laws.accepted_rests_stay_accepted.Goals as goal

pub returns : goal.returns
returns c cell t p q no_worse acceptable = rest_accepted cell t p q no_worse acceptable
