use Rattle.std.proofs.Common.{ℕ, ◌<◌}
use Rattle.shop_base.specs.declared.node.Node.{Node}
use Rattle.shop_base.specs.Graph.{IsNode, node}
use Rattle.alt_graph.specs.ByRank.{IsAtItsRank, AreAtTheirRanks}
use Rattle.alt_graph.proofs.latest.note_ranks.Given as goal

-- the nodes looked at are recorded, those recorded before are so still, and no others
abbrev pub invariant-loop-place : goal.invariant-loop-place
invariant-loop-place l = record {
  ranked : AreAtTheirRanks l.shaped l.times l.nodes;
  noted : (k : ℕ) → k < l.place → IsAtItsRank l.times l.nodes (node l.job k);
  still : (v : Node) → IsNode l.shaped v → IsAtItsRank l.times l.initial.nodes v → IsAtItsRank l.times l.nodes v;
}
