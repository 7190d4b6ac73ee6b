use Rattle.std.proofs.Common.{◌≡◌, ◌-◌}
use Rattle.alt_graph.specs.Evidence.{node_count}
use Rattle.alt_graph.specs.Ranking.{AreSettled}
use Rattle.alt_graph.proofs.ranking.Ranking.of.Given as goal

-- the nodes that the ranked ones looked at lead to are settled
abbrev pub invariant-loop-next : goal.invariant-loop-next
invariant-loop-next g l = record {
  plan : l.ranking.plan ≡ l.fn.graph.plan;
  bounds : l.ranking.bounds ≡ g.B.Bounds.bounds l.fn.bounds;
  settled : AreSettled l.ranking l.next;
}

-- how many nodes weren't looked at
abbrev pub decreases-loop-next : goal.decreases-loop-next
decreases-loop-next g l = node_count l.fn.graph.plan - l.next
