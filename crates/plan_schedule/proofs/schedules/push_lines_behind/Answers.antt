use Rattle.plan_explain.proofs.Texts.{on_ok_each}
use Rattle.plan_schedule.proofs.Behind.{in_time, late}
use Rattle.plan_schedule.proofs.schedules.push_lines_behind.Goals as goal

pub returns-in_ok-deadlines-in-Accepted : goal.returns-in_ok-deadlines-in-Accepted
returns-in_ok-deadlines-in-Accepted g c =
    let known = rw c.in-Accepted.is at c.requires in
    let (ordered, acceptable, budgets) = known.accepted in
    rw c.in-Accepted.is
    (on_ok_each c.push_lines.result _ _
    (λ lines are. in_time c.args.names.now c.args.rest.now.plan c.args.rest.now.cell c.args.rest.now.present c.in-Accepted.times ordered lines c.in_ok-deadlines-in-Accepted.deadlines
    (c.in_ok-deadlines-in-Accepted.ensures.deadlines ordered budgets).deadlines are)
    c.push_lines.ensures)

pub returns-in-Late : goal.returns-in-Late
returns-in-Late g c =
    let known = rw (c.in-Refused.is, c.in-Late.is) at c.requires in
    let (reason, ordered, same) = known.refused in
    rw (c.in-Refused.is, c.in-Late.is)
    (on_ok_each c.push_lines-in-Late.result _ _
    (λ lines are. late c.args.names.now c.args.rest.now.plan c.args.rest.now.cell c.args.rest.now.present c.in-Late.times ordered lines are)
    c.push_lines-in-Late.ensures)

pub push_lines-requires-clause-deadlines : goal.push_lines-requires-clause-deadlines
push_lines-requires-clause-deadlines g c v is = (c.in_ok-deadlines-in-Accepted.ensures.nodes v).0 is
