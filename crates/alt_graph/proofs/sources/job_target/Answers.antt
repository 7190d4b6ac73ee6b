use Rattle.std.proofs.Common.{arith}
use Rattle.shop_base.proofs.Sizes.{steps_few}
use Rattle.alt_graph.proofs.sources.job_target.Goals as goal

pub overflow_add-result : goal.overflow_add-result
overflow_add-result c = omega (arith, c.requires.place, steps_few _ c.route_of.ensures.well_shaped _ c.requires.job)
