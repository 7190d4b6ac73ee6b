use Rattle.std.proofs.Common.{◌≡◌, length, arith, sym, subst}
use Rattle.shop_base.specs.Graph.{IsNode, Arc}
use Rattle.alt_graph.specs.Layout.{number_of}
use Rattle.alt_graph.specs.Ranking.{PlanRanking, IsUnranked, IsLongest, ranking_of}
use Rattle.alt_graph.proofs.NodeNumbers.{number_inside}
use Rattle.alt_graph.proofs.Ranks.{ranked_more, grows, new_ranked, room_left}
use Rattle.alt_graph.proofs.ranking.Ranking.rank_next.Goals as goal

pub index_mut-requires : goal.index_mut-requires
index_mut-requires g c =
    let graph = c.self.inside.graph in
    let node : IsNode graph.plan c.args.node = subst (λ (r : PlanRanking). IsNode r.plan c.args.node) (sym c.self.view_is) c.requires.unranked.node in
    omega (arith, c.number-at.ensures.number, number_inside _ graph.firsts c.self.invariant.sound.firsts c.args.node node, c.self.invariant.size, c.self.inside.rows.ok.0)

pub push_reserved-requires : goal.push_reserved-requires
push_reserved-requires g c =
    let free : IsUnranked (ranking_of c.self.inside.graph (g.B.Bounds.bounds c.self.inside.bounds) c.self.inside.done.items c.self.inside.rows.items) c.args.node = subst (λ (r : PlanRanking). IsUnranked r c.args.node) (sym c.self.view_is) c.requires.unranked in
    let longest : IsLongest (ranking_of c.self.inside.graph (g.B.Bounds.bounds c.self.inside.bounds) c.self.inside.done.items c.self.inside.rows.items) (Arc c.self.inside.graph.plan) c.args.node c.args.longest = subst (λ (r : PlanRanking). IsLongest r (Arc r.plan) c.args.node c.args.longest) (sym c.self.view_is) c.requires.longest in
    omega (arith, room_left c.self.inside.graph _ _ _ _ _ c.self.invariant c.args.node free c.args.longest longest, c.self.inside.done.ok.0)

pub invariant_of-self : goal.invariant_of-self
invariant_of-self g c =
    let free : IsUnranked (ranking_of c.self.inside.graph (g.B.Bounds.bounds c.self.inside.bounds) c.self.inside.done.items c.self.inside.rows.items) c.args.node = subst (λ (r : PlanRanking). IsUnranked r c.args.node) (sym c.self.view_is) c.requires.unranked in
    let longest : IsLongest (ranking_of c.self.inside.graph (g.B.Bounds.bounds c.self.inside.bounds) c.self.inside.done.items c.self.inside.rows.items) (Arc c.self.inside.graph.plan) c.args.node c.args.longest = subst (λ (r : PlanRanking). IsLongest r (Arc r.plan) c.args.node c.args.longest) (sym c.self.view_is) c.requires.longest in
    let is : c.number-at.result ≡ number_of c.self.inside.graph.firsts c.args.node = c.number-at.ensures.number in
    let rank : c.len.result ≡ length c.self.inside.done.items = omega (arith, c.len.ensures, c.self.inside.done.ok.0) in
    rw (c.push_reserved.ensures.items, c.push_reserved.ensures.capacity, is, rank) (ranked_more c.self.inside.graph _ _ _ _ _ c.self.invariant c.args.node free c.args.longest longest)

pub returns-clause-grows : goal.returns-clause-grows
returns-clause-grows g c =
    let free : IsUnranked (ranking_of c.self.inside.graph (g.B.Bounds.bounds c.self.inside.bounds) c.self.inside.done.items c.self.inside.rows.items) c.args.node = subst (λ (r : PlanRanking). IsUnranked r c.args.node) (sym c.self.view_is) c.requires.unranked in
    let longest : IsLongest (ranking_of c.self.inside.graph (g.B.Bounds.bounds c.self.inside.bounds) c.self.inside.done.items c.self.inside.rows.items) (Arc c.self.inside.graph.plan) c.args.node c.args.longest = subst (λ (r : PlanRanking). IsLongest r (Arc r.plan) c.args.node c.args.longest) (sym c.self.view_is) c.requires.longest in
    let is : c.number-at.result ≡ number_of c.self.inside.graph.firsts c.args.node = c.number-at.ensures.number in
    let rank : c.len.result ≡ length c.self.inside.done.items = omega (arith, c.len.ensures, c.self.inside.done.ok.0) in
    rw (c.push_reserved.ensures.items, is, rank, ← c.self.view_is) (grows c.self.inside.graph _ _ _ _ _ c.self.invariant c.args.node free c.args.longest longest)

pub returns-clause-ranked : goal.returns-clause-ranked
returns-clause-ranked g c =
    let free : IsUnranked (ranking_of c.self.inside.graph (g.B.Bounds.bounds c.self.inside.bounds) c.self.inside.done.items c.self.inside.rows.items) c.args.node = subst (λ (r : PlanRanking). IsUnranked r c.args.node) (sym c.self.view_is) c.requires.unranked in
    let longest : IsLongest (ranking_of c.self.inside.graph (g.B.Bounds.bounds c.self.inside.bounds) c.self.inside.done.items c.self.inside.rows.items) (Arc c.self.inside.graph.plan) c.args.node c.args.longest = subst (λ (r : PlanRanking). IsLongest r (Arc r.plan) c.args.node c.args.longest) (sym c.self.view_is) c.requires.longest in
    let is : c.number-at.result ≡ number_of c.self.inside.graph.firsts c.args.node = c.number-at.ensures.number in
    let rank : c.len.result ≡ length c.self.inside.done.items = omega (arith, c.len.ensures, c.self.inside.done.ok.0) in
    rw (is, rank) (new_ranked c.self.inside.graph _ _ _ _ _ c.self.invariant c.args.node free c.args.longest longest)
