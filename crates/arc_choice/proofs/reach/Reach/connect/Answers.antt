use Rattle.std.proofs.Common.{◌∙◌, arith}
use Rattle.arc_choice.specs.Reach.{HasBit}
use Rattle.arc_choice.proofs.Reaching.{node_more, all_nodes}
use Rattle.arc_choice.proofs.reach.Reach.connect.Goals as goal

pub returns-clause-bits : goal.returns-clause-bits
returns-clause-bits c = all_nodes c.args.self.now c.loop-node.self c.args.from c.args.to c.loop-node.node (omega (arith, c.loop-node-test.false, c.node_count-node-end.ensures)) c.loop-node.invariant.bits

pub loop-node-preserved : goal.loop-node-preserved
loop-node-preserved c = record {
  nodes = c.connect_one.ensures.nodes ∙ c.loop-node.invariant.nodes;
  bits = node_more c.args.self.now.nodes c.args.from c.args.to c.loop-node.node (HasBit c.args.self.now) (HasBit c.loop-node.self) (HasBit c.connect_one.new.self)
      (omega (arith, c.loop-node-test.true, c.node_count-node-end.ensures)) c.requires.from c.requires.to c.loop-node.invariant.bits
      (λ a b in_a in_b. c.connect_one.ensures.bits a b (omega (arith, in_a, c.loop-node.invariant.nodes)) (omega (arith, in_b, c.loop-node.invariant.nodes)));
}
