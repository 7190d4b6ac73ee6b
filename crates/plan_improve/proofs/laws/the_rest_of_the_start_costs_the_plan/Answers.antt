use Rattle.plan_improve.proofs.StartCosts.{start_law}
use Rattle.plan_improve.proofs.laws.the_rest_of_the_start_costs_the_plan.Goals as goal

pub returns : goal.returns
returns c p cost shaped = start_law p cost shaped
