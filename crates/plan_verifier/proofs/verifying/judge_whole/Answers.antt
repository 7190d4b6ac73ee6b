use Rattle.alt_graph.proofs.WholePlans.{whole_rooted}
use Rattle.plan_verifier.proofs.{Answers.ok_each, ByBounds.judged_whole}
use Rattle.plan_verifier.proofs.verifying.judge_whole.Goals as goal

pub solve_from-requires-clause-rooted : goal.solve_from-requires-clause-rooted
solve_from-requires-clause-rooted c = whole_rooted c.args.shaped.now c.shop-shop.ensures.well_shaped

pub judge_from-requires-clause-ordered : goal.judge_from-requires-clause-ordered
judge_from-requires-clause-ordered c = c.in_ok-solved.ensures.ordered

pub judge_from-requires-clause-cyclic : goal.judge_from-requires-clause-cyclic
judge_from-requires-clause-cyclic c = c.in_ok-solved.ensures.cyclic

pub returns-clause-judged : goal.returns-clause-judged
returns-clause-judged c = ok_each c.judge_from.result (judged_whole c.args.shaped.now c.shop-shop.ensures.well_shaped) c.judge_from.ensures
