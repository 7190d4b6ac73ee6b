use Rattle.std.proofs.Common.{ℕ, List, length, arith, sym, ap, subst}
use Rattle.std.proofs.lemmas.List.{length_push}
use Rattle.alt_graph.specs.Places.{node_at}
use Rattle.plan_limits.specs.Stages.{Stage, stage_of}
use Rattle.plan_limits.specs.Asked.{AreLast}
use Rattle.plan_limits.proofs.Spans.{last_place, last_push}
use Rattle.plan_limits.proofs.moments.last_moments.Goals as goal

pub loop-node-preserved : goal.loop-node-preserved
loop-node-preserved g c =
    let cell = c.args.cell.now in
    let nodes = c.args.nodes.now in
    let n = c.loop-node.node-index in
    record {
      last = λ t. (
          let s : Stage = stage_of cell.plan cell.cell t in
          subst (AreLast s nodes c.args.limits.now) (sym {A = List ℕ} c.in_ok-push.ensures.items)
          (last_push s nodes c.args.limits.now c.loop-node.last.items n c.last_of.result c.loop-node.invariant.count (c.loop-node.invariant.last t)
          (last_place s c.args.limits.now (node_at nodes n) c.last_of.result (c.requires.numbered.inside n c.loop-node-test.true) c.last_of.ensures)));
      count = omega (arith, ap length c.in_ok-push.ensures.items, length_push c.loop-node.last.items c.last_of.result, c.loop-node.invariant.count);
    }
