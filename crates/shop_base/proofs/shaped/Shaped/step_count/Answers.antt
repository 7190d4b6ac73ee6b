use Rattle.std.proofs.Common.{arith, length, ap, rules}
use Rattle.shop_base.proofs.Sizes.{steps_few}
use Rattle.shop_base.proofs.shaped.Shaped.step_count.Goals as goal

pub overflow_cast-result : goal.overflow_cast-result
overflow_cast-result c = omega (arith, ap length c.route_of.ensures.route, steps_few _ c.route_of.ensures.well_shaped _ c.requires)

pub returns-clause-few : goal.returns-clause-few
returns-clause-few c = omega (arith, ap length c.route_of.ensures.route, steps_few _ c.route_of.ensures.well_shaped _ c.requires)

pub returns-clause-count : goal.returns-clause-count
returns-clause-count c = search rules depth 2
