use Rattle.std.proofs.Common.{◌≡◌, length, arith, subst}
use Rattle.alt_graph.specs.Ranking.{AreAllRanked}
use Rattle.alt_graph.proofs.Ranks.{full_ranked}
use Rattle.alt_graph.proofs.ranking.Ranking.first_unranked.Goals as goal

pub returns-then-len : goal.returns-then-len
returns-then-len g c =
    let full : length c.self.inside.done.items ≡ length c.self.inside.rows.items = omega (arith, c.if-len.true, c.len.ensures, c.len-2.ensures, c.self.inside.done.ok.0, c.self.inside.rows.ok.0) in
    subst AreAllRanked c.self.view_is (full_ranked c.self.inside.graph _ _ _ _ _ c.self.invariant full)
