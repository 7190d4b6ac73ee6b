use Rattle.plan_improve.proofs.StartCosts.{costs_there}
use Rattle.plan_improve.proofs.fixed.Fixed.cost.Goals as goal

pub returns : goal.returns
returns c = costs_there c.args.self.now c.args.rest.now c.cost_from.result c.shaped-plan.ensures.well_shaped c.requires c.cost_from.ensures
