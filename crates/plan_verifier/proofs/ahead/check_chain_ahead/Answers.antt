use Rattle.plan_verifier.proofs.PathsAhead.{exact_ahead, answer_no_faster}
use Rattle.plan_verifier.proofs.ahead.check_chain_ahead.Goals as goal

pub returns-clause-exact : goal.returns-clause-exact
returns-clause-exact g c =
    let r = c.args.rest.now in
    let known = rw (c.shaped-shaped.ensures.plan, c.cell-cell.ensures.plan, c.cell-cell.ensures.cell, c.present-present.ensures.present) at c.check_chain_from.ensures.exact in
    exact_ahead r.plan r.cell r.present c.shaped-shaped.ensures.well_shaped c.shaped-shaped.ensures.sound c.args.nodes.now c.check_chain_from.result known

pub returns-clause-no_faster : goal.returns-clause-no_faster
returns-clause-no_faster g c =
    let r = c.args.rest.now in
    let known = rw (c.shaped-shaped.ensures.plan, c.cell-cell.ensures.plan, c.cell-cell.ensures.cell, c.present-present.ensures.present) at c.check_chain_from.ensures.exact in
    answer_no_faster r.plan r.cell r.present c.shaped-shaped.ensures.well_shaped c.shaped-shaped.ensures.sound c.args.nodes.now c.check_chain_from.result known
