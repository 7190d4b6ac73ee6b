use Rattle.std.proofs.Common.{sym, ◌∙◌}
use Rattle.plan_verifier.proofs.{Answers.ok_each, Tables.rest_rooted, Rests.solved_ahead}
use Rattle.plan_verifier.proofs.ahead.earliest_moments.Goals as goal

pub solve_from-requires-clause-planned : goal.solve_from-requires-clause-planned
solve_from-requires-clause-planned g c = c.cell-cell.ensures.plan ∙ sym c.shaped-shaped.ensures.plan

pub solve_from-requires-clause-rooted : goal.solve_from-requires-clause-rooted
solve_from-requires-clause-rooted g c = rw (c.shaped-shaped.ensures.plan, c.cell-cell.ensures.plan, c.cell-cell.ensures.cell, c.present-present.ensures.present)
    (rest_rooted c.args.rest.now.plan c.args.rest.now.cell c.args.rest.now.present c.shaped-shaped.ensures.sound)

pub returns-clause-ordered : goal.returns-clause-ordered
returns-clause-ordered g c = ok_each c.solve_from.result (solved_ahead c.args.rest.now.plan c.args.rest.now.cell c.args.rest.now.present c.shaped-shaped.ensures.well_shaped c.shaped-shaped.ensures.sound)
    (rw (c.shaped-shaped.ensures.plan, c.cell-cell.ensures.plan, c.cell-cell.ensures.cell, c.present-present.ensures.present) at c.solve_from.ensures.ordered)

pub returns-clause-cyclic : goal.returns-clause-cyclic
returns-clause-cyclic g c = rw c.shaped-shaped.ensures.plan at c.solve_from.ensures.cyclic

pub returns-clause-exact : goal.returns-clause-exact
returns-clause-exact g c = rw c.shaped-shaped.ensures.plan at c.solve_from.ensures.exact
