use Rattle.plan_improve.proofs.RestCosts.{cost_is, leave_soon}
use Rattle.plan_improve.proofs.costing.cost_from.Goals as goal

pub cost_in-requires-clause-soon : goal.cost_in-requires-clause-soon
cost_in-requires-clause-soon g c =
    rw (c.cell-cell.ensures.plan, c.cell-cell.ensures.cell) (
    leave_soon c.args.rest.now.plan c.args.rest.now.cell c.args.rest.now.present c.in-Ordered.times c.shaped-plan.ensures.sound
    (rw c.cell-cell.ensures.cell at c.cleanings_in_range.ensures) c.present-present.ensures.moment.in_range (rw c.in-Ordered.is at c.in_ok-times.ensures.ordered))

pub returns-in-Ordered : goal.returns-in-Ordered
returns-in-Ordered g c =
    cost_is c.args.rest.now.plan c.args.rest.now.cell c.args.rest.now.present c.in-Ordered.times c.cost_in.result (rw c.in-Ordered.is at c.in_ok-times.ensures.ordered)
    (rw (c.cell-cell.ensures.plan, c.cell-cell.ensures.cell) at c.cost_in.ensures.late) (rw c.cell-cell.ensures.plan at c.cost_in.ensures.makespan)
