use Rattle.alt_graph.proofs.ranking.Ranking.free_of.Goals as goal

pub returns-in-Some : goal.returns-in-Some
returns-in-Some g c = (c.in-Some.source.length, c.in-Some.is, c.if-not-is_ranked.ensures)

pub is_ranked-requires : goal.is_ranked-requires
is_ranked-requires g c = c.requires c.in-Some.source c.in-Some.is
