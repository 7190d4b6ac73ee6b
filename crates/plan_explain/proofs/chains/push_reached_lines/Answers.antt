use Rattle.std.proofs.Common.{◌+◌, ◌^◌, ◌<◌, arith}
use Rattle.plan_explain.proofs.Printed.{along_next, reached_printed, length_next, moment_small, reached_end}
use Rattle.plan_explain.proofs.chains.push_reached_lines.Goals as goal

pub kind-arc-requires : goal.kind-arc-requires
kind-arc-requires c = (along_next c.args.arcs.now c.loop-node.last c.args.along.now c.loop-node.node-index _ (omega arith) c.loop-node.invariant.arcs).0

pub overflow_add-at : goal.overflow_add-at
overflow_add-at c =
    let small : c.loop-node.at + c.time-at.result < 2 ^ 64 = moment_small c.args.arcs.now c.loop-node.last c.args.along.now c.loop-node.node-index _ (omega arith)
    c.loop-node.at _ _ c.kind-arc.ensures c.time-at.ensures _ c.loop-node.invariant.size c.requires.small in
    omega (arith, small)

pub loop-node-preserved : goal.loop-node-preserved
loop-node-preserved c =
    let p = c.args.arcs.now in
    let along = c.args.along.now in
    let i = c.loop-node.node-index in
    record {
      printed = reached_printed p c.loop-node.last along i _ (omega arith) c.loop-node.at _ _ c.kind-arc.ensures c.time-at.ensures c.args.names.now _ _ _ c.loop-node.invariant.printed (rw (c.put_arc.ensures.written, c.end_anew.ensures) at c.in_ok-push_node_at.ensures);
      arcs = (along_next p c.loop-node.last along i _ (omega arith) c.loop-node.invariant.arcs).1;
      size = length_next p c.loop-node.last along i _ (omega arith) c.loop-node.at _ _ c.kind-arc.ensures c.time-at.ensures _ c.loop-node.invariant.size;
    }

pub returns : goal.returns
returns c = reached_end c.args.arcs.now c.loop-node.last c.args.along.now c.loop-node.node-index (omega arith) c.args.names.now c.loop-node.at _ _ c.loop-node.invariant.printed
