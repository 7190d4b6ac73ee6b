use Rattle.plan_improve.proofs.Lawful.{second, passed_on}
use Rattle.plan_improve.proofs.laws.second_searches_are_no_worse.Goals as goal

pub returns-clause-second : goal.returns-clause-second
returns-clause-second c p q acyclic never_worse = second p q acyclic never_worse

pub returns-clause-passed_on : goal.returns-clause-passed_on
returns-clause-passed_on c p q r one next = passed_on p q r one next
