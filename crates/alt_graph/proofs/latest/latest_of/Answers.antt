use Rattle.std.proofs.Common.{arith, ap, get_or}
use Rattle.alt_graph.proofs.ArcKinds.{blocking_arc_is, target_node}
use Rattle.alt_graph.proofs.Latests.{latest_alone, latest_both, row_inside}
use Rattle.alt_graph.proofs.latest.latest_of.Goals as goal

pub offset_bounds-moments-number : goal.offset_bounds-moments-number
offset_bounds-moments-number c =
    omega (arith, c.number.ensures.number, row_inside _ _ _ _ c.requires.rows (target_node _ _ _ _ (blocking_arc_is _ _ _ _ c.in-Some.ensures.1)), c.requires.rows.size, c.requires.rows.numbers.few)

pub bounds-moments-number : goal.bounds-moments-number
bounds-moments-number c =
    omega (arith, c.number.ensures.number, row_inside _ _ _ _ c.requires.rows (target_node _ _ _ _ (blocking_arc_is _ _ _ _ c.in-Some.ensures.1)))

pub returns-in-Some : goal.returns-in-Some
returns-in-Some c =
    let lengths = rw c.shaped.ensures.plan at c.clean_behind.ensures in
    latest_both _ _ c.args.node _ _ _ c.in-Some.ensures.0 c.in-Some.next c.number.ensures.sound.shaped c.latest_in_job-along.ensures c.in-Some.ensures.1
    (omega (arith, c.saturating_sub.ensures, ap (λ i. get_or c.args.moments.now i 0) c.number.ensures.number, lengths c.in-Some.next c.in-Some.ensures.0 c.in-Some.ensures.1)) c.earlier.ensures

pub returns-in-None : goal.returns-in-None
returns-in-None c = latest_alone _ _ c.args.node _ c.latest_in_job-along.ensures c.in-None.ensures
