use Rattle.plan_improve.proofs.{Common.setting_of, Once.{fixed_once, no_cost}, Keeping.none_below}
use Rattle.plan_improve.proofs.fixed.Fixed.cost_below.Goals as goal

pub returns-else-is_less : goal.returns-else-is_less
returns-else-is_less c =
    none_below (setting_of c.args.self.now c.args.rest.now) (fixed_once c.args.self.now c.args.rest.now) c.args.rest.now.plan c.in-Some.cost c.args.bound.now (rw c.in-Some.is at c.in_ok-cost.ensures) c.if-is_less.ensures

pub returns-in-None : goal.returns-in-None
returns-in-None c = λ cost is less. no_cost c.args.self.now c.args.rest.now c.args.rest.now.plan (rw c.in-None.is at c.in_ok-cost.ensures) cost is
