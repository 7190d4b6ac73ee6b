use Rattle.plan_improve.proofs.Lawful.{accepted, never_grow}
use Rattle.plan_improve.proofs.laws.accepted_plans_stay_accepted.Goals as goal

pub returns-clause-accepted : goal.returns-clause-accepted
returns-clause-accepted c p q no_worse acceptable = accepted p q no_worse acceptable

pub returns-clause-makespan : goal.returns-clause-makespan
returns-clause-makespan c p q m n no_worse acceptable one other = never_grow p q m n no_worse acceptable one other
