use Rattle.plan_explain.proofs.Printed.{cycle_arcs}
use Rattle.plan_explain.proofs.cycles.push_cycle_lines.Goals as goal

pub push_arc_lines-requires : goal.push_arc_lines-requires
push_arc_lines-requires c =
    rw c.in_ok-arcs-in-Some.ensures
    (cycle_arcs c.args.shaped.now c.args.nodes.now c.in-Some.first.now c.in-Some.rest.now c.in-Some.ensures.cases.0 c.requires)
