use Rattle.alt_graph.proofs.ranking.Ranking.try_target.Goals as goal

pub try_rank-requires : goal.try_rank-requires
try_rank-requires g c = c.requires c.in-Some.node c.in-Some.is
