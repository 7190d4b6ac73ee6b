use Rattle.alt_graph.proofs.WholePlans.{whole_rooted, solved_to}
use Rattle.alt_graph.proofs.solving.solve.Goals as goal

pub solve_from-requires-clause-rooted : goal.solve_from-requires-clause-rooted
solve_from-requires-clause-rooted c = whole_rooted c.args.shaped.now c.shop-shop.ensures.well_shaped

pub returns-clause-ordered : goal.returns-clause-ordered
returns-clause-ordered c = solved_to c.args.shaped.now c.solve_from.ensures.well_shaped c.solve_from.result c.solve_from.ensures.ordered
