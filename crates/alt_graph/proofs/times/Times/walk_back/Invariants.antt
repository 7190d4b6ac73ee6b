use Rattle.alt_graph.specs.Times.{IsTimed, rank_of}
use Rattle.alt_graph.proofs.Chains.{IsWalkedTo}
use Rattle.alt_graph.proofs.times.Times.walk_back.Given as goal

-- the nodes so far go on, backwards, from the one looked at to the target
abbrev pub invariant-back : goal.invariant-back
invariant-back l = record {
  timed : IsTimed l.self l.last;
  on : IsWalkedTo l.self l.nodes.items l.last l.fn.node;
}

-- its rank
abbrev pub decreases-back : goal.decreases-back
decreases-back l = rank_of l.self l.last
