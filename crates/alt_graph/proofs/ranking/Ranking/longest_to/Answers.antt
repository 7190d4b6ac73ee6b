use Rattle.std.proofs.Common.{◌≡◌, Option, None, Some, MatchOption, subst}
use Rattle.shop_base.specs.declared.node.Node.{Node}
use Rattle.shop_base.specs.Plan.{IsWellShaped}
use Rattle.shop_base.specs.Graph.{Arc, IsNode}
use Rattle.alt_graph.specs.declared.times.TheConstants.{UNRANKED}
use Rattle.alt_graph.specs.declared.sources.ArcIn.{ArcIn}
use Rattle.alt_graph.specs.declared.ranking.Longest.{Longest}
use Rattle.alt_graph.specs.Bounds.{AreRooted}
use Rattle.alt_graph.specs.Sources.{IsJobArc, IsBlockingArc}
use Rattle.alt_graph.specs.Times.{rank_of}
use Rattle.alt_graph.specs.Ranking.{PlanRanking, WaitsFor, IsLongest, IsWith}
use Rattle.shop_base.proofs.Cycles.{source_node}
use Rattle.alt_graph.proofs.ArcKinds.{arc_short, blocking_arc_is}
use Rattle.alt_graph.proofs.LongestPaths.{longest_alone, longest_freed, waits_for}
use Rattle.alt_graph.proofs.Ranks.{shaped_of, rooted_of}
use Rattle.alt_graph.proofs.ranking.Ranking.longest_to.Goals as goal

over_freed : (r : PlanRanking) (shaped : IsWellShaped r.plan) (rooted : AreRooted r.plan r.bounds) (v : Node) (is : IsNode r.plan v) (s : ArcIn) → IsBlockingArc r.plan s.node v s.length
    → (along : Longest) → IsLongest r (IsJobArc r.plan) v along → (o : Option Longest) → MatchOption o (rank_of r.times s.node ≡ UNRANKED) (IsWith r along s) → MatchOption o (WaitsFor r UNRANKED v) (IsLongest r (Arc r.plan) v)
over_freed r shaped rooted v is s arc along is_along None free = waits_for r shaped rooted v is s (blocking_arc_is r.plan s.node v s.length arc) free
over_freed r shaped rooted v is s arc along is_along (Some longest) both = longest_freed r shaped rooted v is along s longest is_along arc both

pub returns-in_err-along : goal.returns-in_err-along
returns-in_err-along g c = rw c.from_residual.ensures c.in_err-along.ensures

pub longest_with-requires-clause-node : goal.longest_with-requires-clause-node
longest_with-requires-clause-node g c =
    subst (λ (q : PlanRanking). IsNode q.plan c.in-Some.source.node) c.self.view_is (source_node _ _ _ _ (blocking_arc_is _ _ _ _ c.in-Some.ensures.arc))

pub longest_with-requires-clause-short : goal.longest_with-requires-clause-short
longest_with-requires-clause-short g c = arc_short _ _ _ _ c.in-Some.ensures.sound.shaped (blocking_arc_is _ _ _ _ c.in-Some.ensures.arc)

pub returns-in-Some : goal.returns-in-Some
returns-in-Some g c =
    let r = c.args.self.now in
    let s = c.in-Some.source in
    let shaped = shaped_of c.self.inside.graph _ _ _ _ _ _ c.self.view_is c.self.invariant in
    let rooted = rooted_of c.self.inside.graph _ _ _ _ _ _ c.self.view_is c.self.invariant in
    let arc : IsBlockingArc r.plan s.node c.args.node s.length = subst (λ (q : PlanRanking). IsBlockingArc q.plan s.node c.args.node s.length) c.self.view_is c.in-Some.ensures.arc in
    over_freed r shaped rooted c.args.node c.requires s arc c.in_ok-along.along c.in_ok-along.ensures c.longest_with.result c.longest_with.ensures

pub returns-in-None : goal.returns-in-None
returns-in-None g c =
    let shaped = shaped_of c.self.inside.graph _ _ _ _ _ _ c.self.view_is c.self.invariant in
    let rooted = rooted_of c.self.inside.graph _ _ _ _ _ _ c.self.view_is c.self.invariant in
    longest_alone c.args.self.now shaped rooted c.args.node c.requires c.in_ok-along.along c.in_ok-along.ensures
    (λ u d. subst (λ (q : PlanRanking). IsBlockingArc q.plan u c.args.node d → ⊥) c.self.view_is (c.in-None.ensures.arc u d))
