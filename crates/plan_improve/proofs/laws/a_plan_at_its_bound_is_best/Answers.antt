use Rattle.plan_improve.proofs.Lawful.{nobody_betters}
use Rattle.plan_improve.proofs.laws.a_plan_at_its_bound_is_best.Goals as goal

pub returns : goal.returns
returns c p q best same better = nobody_betters p q best same better
