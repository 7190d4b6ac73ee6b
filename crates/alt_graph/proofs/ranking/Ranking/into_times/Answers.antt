use Rattle.std.proofs.Common.{sym, subst}
use Rattle.alt_graph.specs.Ranking.{AreAllRanked, ranking_of}
use Rattle.alt_graph.proofs.Graphs.{all_linked, all_ordered}
use Rattle.alt_graph.proofs.ranking.Ranking.into_times.Goals as goal

pub of-requires : goal.of-requires
of-requires g c =
    let all : AreAllRanked (ranking_of c.self.inside.graph (g.B.Bounds.bounds c.self.inside.bounds) c.self.inside.done.items c.self.inside.rows.items) = subst AreAllRanked (sym c.self.view_is) c.requires in
    rw c.into_firsts.ensures (all_linked c.self.inside.graph _ _ _ _ _ c.self.invariant all)

pub returns : goal.returns
returns g c =
    let all : AreAllRanked (ranking_of c.self.inside.graph (g.B.Bounds.bounds c.self.inside.bounds) c.self.inside.done.items c.self.inside.rows.items) = subst AreAllRanked (sym c.self.view_is) c.requires in
    rw (c.of.ensures, c.into_firsts.ensures, ← c.self.view_is) (all_ordered c.self.inside.graph _ _ _ _ _ c.self.invariant all)
