use Rattle.std.proofs.Common.{arith}
use Rattle.plan_explain.proofs.{Printed.{arcs_next, arc_printed, arcs_end, lines_end}, Texts.on_ok_same}
use Rattle.plan_explain.proofs.cycles.push_arc_lines.Goals as goal

pub push_arc_line-requires : goal.push_arc_line-requires
push_arc_line-requires c =
    (arcs_next c.args.arcs.now c.loop-node.last c.args.along.now c.loop-node.node-index _ (omega arith) c.args.to c.loop-node.invariant.arcs).0

pub loop-node-preserved : goal.loop-node-preserved
loop-node-preserved c =
    let p = c.args.arcs.now in
    let along = c.args.along.now in
    let i = c.loop-node.node-index in
    record {
      printed = arc_printed p c.loop-node.last along i _ (omega arith) c.args.names.now c.args.to _ _ _ c.loop-node.invariant.printed c.in_ok-push_arc_line.ensures;
      arcs = (arcs_next p c.loop-node.last along i _ (omega arith) c.args.to c.loop-node.invariant.arcs).1;
    }

pub push_arc_line-requires-2 : goal.push_arc_line-requires-2
push_arc_line-requires-2 c = arcs_end c.args.arcs.now c.loop-node.last c.args.along.now c.loop-node.node-index (omega arith) c.args.to c.loop-node.invariant.arcs

pub returns : goal.returns
returns c = on_ok_same c.push_arc_line-2.result c.push_arc_line-2.new.text.items _ _
    (lines_end c.args.arcs.now c.loop-node.last c.args.along.now c.loop-node.node-index (omega arith) c.args.names.now c.args.to _ _ c.loop-node.invariant.printed) c.push_arc_line-2.ensures
