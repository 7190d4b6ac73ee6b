use Rattle.std.proofs.Common.{arith, ap, get_or}
use Rattle.alt_graph.proofs.ArcKinds.{job_arc_is, target_node}
use Rattle.alt_graph.proofs.Latests.{latest_leaving, latest_along, row_inside}
use Rattle.alt_graph.proofs.latest.latest_in_job.Goals as goal

pub offset_bounds-moments-number : goal.offset_bounds-moments-number
offset_bounds-moments-number c =
    let arc = rw c.shaped-shaped.ensures.plan at c.in-Some.ensures in
    omega (arith, c.number.ensures.number, row_inside _ _ _ _ c.requires.rows (target_node _ _ _ _ (job_arc_is _ _ _ _ arc.1)), c.requires.rows.size, c.requires.rows.numbers.few)

pub bounds-moments-number : goal.bounds-moments-number
bounds-moments-number c =
    let arc = rw c.shaped-shaped.ensures.plan at c.in-Some.ensures in
    omega (arith, c.number.ensures.number, row_inside _ _ _ _ c.requires.rows (target_node _ _ _ _ (job_arc_is _ _ _ _ arc.1)))

pub returns-in-Some : goal.returns-in-Some
returns-in-Some c =
    let arc = rw c.shaped-shaped.ensures.plan at c.in-Some.ensures in
    let lengths = rw c.shaped-shaped.ensures.plan at c.nominal_at.ensures in
    latest_along _ _ c.args.node c.saturating_sub.result arc.0 c.in-Some.next c.number.ensures.sound.shaped arc.1
    (omega (arith, c.saturating_sub.ensures, ap (λ i. get_or c.args.moments.now i 0) c.number.ensures.number, lengths c.in-Some.next arc.0 arc.1))

pub returns-in-None : goal.returns-in-None
returns-in-None c =
    latest_leaving _ _ c.args.node _ c.requires.node (rw c.shaped-shaped.ensures.plan at c.in-None.ensures) (rw c.shaped-shaped.ensures.plan at c.budget_of.ensures.budget)
