use Rattle.std.proofs.Common.{◌∙◌, arith}
use Rattle.arc_choice.specs.Reach.{HasBit}
use Rattle.arc_choice.proofs.Reaching.{own_more}
use Rattle.arc_choice.proofs.reach.Reach.new.Goals as goal

pub loop-node-preserved : goal.loop-node-preserved
loop-node-preserved c = record {
  nodes = c.own.ensures.nodes ∙ c.loop-node.invariant.nodes;
  bits = own_more c.args.nodes c.loop-node.node (HasBit c.loop-node.reach) (HasBit c.own.new.self) c.loop-node.invariant.bits
      (λ a b in_a in_b. c.own.ensures.bits a b (omega (arith, in_a, c.loop-node.invariant.nodes)) (omega (arith, in_b, c.loop-node.invariant.nodes)));
}
