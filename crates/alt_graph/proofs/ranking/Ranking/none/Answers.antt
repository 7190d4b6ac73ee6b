use Rattle.alt_graph.proofs.Ranks.{none_ranked}
use Rattle.alt_graph.proofs.ranking.Ranking.none.Goals as goal

pub invariant_of-result : goal.invariant_of-result
invariant_of-result g c = rw (c.in_ok-done.ensures.times, c.in_ok-done.ensures.none)
    (none_ranked c.args.graph _ _ c.node_count-nodes.result _ c.node_count-nodes.ensures.sound c.requires.planned c.requires.rooted c.node_count-nodes.ensures.count c.in_ok-done.ensures.enough)
