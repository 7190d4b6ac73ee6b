use Rattle.std.proofs.Common.{◌≡◌, ℕ, ◌⊎◌, inl, inr, Option, arith, subst}
use Rattle.shop_base.specs.declared.node.Node.{Node}
use Rattle.shop_base.proofs.Cycles.{source_node}
use Rattle.alt_graph.specs.declared.times.TheConstants.{UNRANKED}
use Rattle.alt_graph.specs.declared.sources.ArcIn.{ArcIn}
use Rattle.alt_graph.specs.Sources.{IsJobArc, IsBlockingArc, IsArcIn}
use Rattle.alt_graph.specs.Times.{rank_of}
use Rattle.alt_graph.specs.Ranking.{PlanRanking, IsRanked, AreRanked, IsSettled}
use Rattle.alt_graph.proofs.ArcKinds.{arc_kind, job_arc_is, blocking_arc_is, job_source_once, blocking_source_once}
use Rattle.alt_graph.proofs.Ranks.{ranks_of}
use Rattle.alt_graph.proofs.Walks.{source_ranked}
use Rattle.alt_graph.proofs.ranking.Ranking.free_source.Goals as goal

-- a settled node without a rank waits for a node that has none
never_ranked : (r : PlanRanking) (v : Node) → AreRanked r → rank_of r.times v ≡ UNRANKED → IsSettled r UNRANKED v
    → ((u : Node) (d : ℕ) → IsJobArc r.plan u v d → IsRanked r.times u) → ((u : Node) (d : ℕ) → IsBlockingArc r.plan u v d → IsRanked r.times u) → ⊥
never_ranked r v sound free (inl ranked) job blocking = ranked free
never_ranked r v sound free (inr (u, d, arc, after)) job blocking = go (arc_kind r.plan u v d arc)
  where
    ranked_no : IsRanked r.times u → ⊥
    ranked_no ranked = omega (arith, sound.few, sound.within u (source_node r.plan u v d arc) ranked, after)

    go : IsJobArc r.plan u v d ⊎ IsBlockingArc r.plan u v d → ⊥
    go (inl is) = ranked_no (job u d is)
    go (inr is) = ranked_no (blocking u d is)

pub returns-in-Some-clause-arc : goal.returns-in-Some-clause-arc
returns-in-Some-clause-arc g c =
    let free = c.in-Some.ensures in
    let arc : IsJobArc c.args.self.now.plan c.in-Some.free c.args.node free.0 = subst (λ (o : Option ArcIn). IsArcIn (IsJobArc c.args.self.now.plan) c.args.node o) free.1 (rw c.shaped.ensures.plan at c.job_source-source.ensures.arc) in
    (free.0, job_arc_is _ _ _ _ arc)

pub unreachable-requires : goal.unreachable-requires
unreachable-requires g c =
    let r = c.args.self.now in
    let blocking : IsArcIn (IsBlockingArc r.plan) c.args.node c.blocking_source-source.result = subst (λ (s : PlanRanking). IsArcIn (IsBlockingArc s.plan) c.args.node c.blocking_source-source.result) c.self.view_is c.blocking_source-source.ensures.arc in
    never_ranked r c.args.node (ranks_of c.self.inside.graph _ _ _ _ _ _ c.self.view_is c.self.invariant) c.requires.node.free (c.requires.settled c.args.node c.requires.node.node)
    (source_ranked (IsJobArc r.plan) (job_source_once r.plan c.shaped.ensures.sound) r.times c.args.node c.job_source-source.result (rw c.shaped.ensures.plan at c.job_source-source.ensures.arc) c.in_default.ensures)
    (source_ranked (IsBlockingArc r.plan) (blocking_source_once r.plan c.shaped.ensures.sound) r.times c.args.node c.blocking_source-source.result blocking c.in-None.ensures)

pub returns-clause-arc : goal.returns-clause-arc
returns-clause-arc g c =
    let r = c.args.self.now in
    let free = c.in-Some-free_of.ensures in
    let blocking : IsArcIn (IsBlockingArc r.plan) c.args.node c.blocking_source-source.result = subst (λ (s : PlanRanking). IsArcIn (IsBlockingArc s.plan) c.args.node c.blocking_source-source.result) c.self.view_is c.blocking_source-source.ensures.arc in
    let arc : IsBlockingArc r.plan c.in-Some-free_of.free c.args.node free.0 = subst (λ (o : Option ArcIn). IsArcIn (IsBlockingArc r.plan) c.args.node o) free.1 blocking in
    (free.0, blocking_arc_is _ _ _ _ arc)
