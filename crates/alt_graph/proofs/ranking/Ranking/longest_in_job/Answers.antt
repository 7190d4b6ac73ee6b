use Rattle.std.proofs.Common.{◌≡◌, ℕ, Option, None, Some, MatchOption}
use Rattle.shop_base.specs.Plan.{IsWellShaped}
use Rattle.shop_base.specs.Graph.{IsNode}
use Rattle.shop_base.specs.declared.node.Node.{Node}
use Rattle.alt_graph.specs.declared.times.TheConstants.{UNRANKED}
use Rattle.alt_graph.specs.declared.sources.ArcIn.{ArcIn}
use Rattle.alt_graph.specs.declared.ranking.Longest.{Longest}
use Rattle.alt_graph.specs.Bounds.{AreRooted, bound_of}
use Rattle.alt_graph.specs.Sources.{IsJobArc}
use Rattle.alt_graph.specs.Times.{rank_of}
use Rattle.alt_graph.specs.Ranking.{PlanRanking, WaitsFor, IsLongest, IsFromBound, IsOver, IsWith}
use Rattle.shop_base.proofs.Cycles.{source_node}
use Rattle.alt_graph.proofs.ArcKinds.{arc_short, job_arc_is}
use Rattle.alt_graph.proofs.LongestPaths.{has_bound, longest_along, longest_both, longest_bound, waits_for}
use Rattle.alt_graph.proofs.ranking.Ranking.longest_in_job.Goals as goal

module _ (r : PlanRanking) (shaped : IsWellShaped r.plan) (rooted : AreRooted r.plan r.bounds) (v : Node) (is : IsNode r.plan v) where
  -- over the job arc alone
  over_job : (s : ArcIn) → IsJobArc r.plan s.node v s.length → bound_of r.bounds v ≡ None
      → (o : Option Longest) → MatchOption o (rank_of r.times s.node ≡ UNRANKED) (IsOver r s) → MatchOption o (WaitsFor r UNRANKED v) (IsLongest r (IsJobArc r.plan) v)
  over_job s arc none None free = waits_for r shaped rooted v is s (job_arc_is r.plan s.node v s.length arc) free
  over_job s arc none (Some longest) over = longest_along r shaped rooted v is s longest arc none over

  -- besides the bound
  over_both : (s : ArcIn) → IsJobArc r.plan s.node v s.length → (base : Longest) → IsFromBound r v base
      → (o : Option Longest) → MatchOption o (rank_of r.times s.node ≡ UNRANKED) (IsWith r base s) → MatchOption o (WaitsFor r UNRANKED v) (IsLongest r (IsJobArc r.plan) v)
  over_both s arc base at_base None free = waits_for r shaped rooted v is s (job_arc_is r.plan s.node v s.length arc) free
  over_both s arc base at_base (Some longest) both = longest_both r shaped rooted v is base s longest arc at_base both

  -- the bound alone
  bound_alone : ((u : Node) (d : ℕ) → IsJobArc r.plan u v d → ⊥)
      → (o : Option Longest) → MatchOption o (bound_of r.bounds v ≡ None) (IsFromBound r v) → MatchOption o (WaitsFor r UNRANKED v) (IsLongest r (IsJobArc r.plan) v)
  bound_alone none None free = absurd (has_bound r shaped rooted v is none free)
  bound_alone none (Some longest) at_base = longest_bound r shaped rooted v is longest none at_base

pub longest_over-requires-clause-node : goal.longest_over-requires-clause-node
longest_over-requires-clause-node g c = source_node _ _ _ _ (job_arc_is _ _ _ _ (rw c.shaped-shaped.ensures.plan at c.in-Some.ensures.arc))

pub longest_with-requires-clause-node : goal.longest_with-requires-clause-node
longest_with-requires-clause-node g c = source_node _ _ _ _ (job_arc_is _ _ _ _ (rw c.shaped-shaped.ensures.plan at c.in-Some.ensures.arc))

pub longest_over-requires-clause-short : goal.longest_over-requires-clause-short
longest_over-requires-clause-short g c = arc_short _ _ _ _ c.shaped-shaped.ensures.sound (job_arc_is _ _ _ _ (rw c.shaped-shaped.ensures.plan at c.in-Some.ensures.arc))

pub longest_with-requires-clause-short : goal.longest_with-requires-clause-short
longest_with-requires-clause-short g c = arc_short _ _ _ _ c.shaped-shaped.ensures.sound (job_arc_is _ _ _ _ (rw c.shaped-shaped.ensures.plan at c.in-Some.ensures.arc))

pub returns-in-Some-from_bound : goal.returns-in-Some-from_bound
returns-in-Some-from_bound g c =
    over_both c.args.self.now c.shaped-shaped.ensures.sound c.from_bound.ensures.rooted c.args.node c.requires c.in-Some.source (rw c.shaped-shaped.ensures.plan at c.in-Some.ensures.arc)
    c.in-Some-from_bound.base c.in-Some-from_bound.ensures.exact c.longest_with.result c.longest_with.ensures

pub returns-in-None-from_bound : goal.returns-in-None-from_bound
returns-in-None-from_bound g c =
    over_job c.args.self.now c.shaped-shaped.ensures.sound c.from_bound.ensures.rooted c.args.node c.requires c.in-Some.source (rw c.shaped-shaped.ensures.plan at c.in-Some.ensures.arc)
    c.in-None-from_bound.ensures.exact c.longest_over.result c.longest_over.ensures

pub returns-in-None : goal.returns-in-None
returns-in-None g c =
    bound_alone c.args.self.now c.shaped-shaped.ensures.sound c.from_bound-in-None.ensures.rooted c.args.node c.requires (rw c.shaped-shaped.ensures.plan at c.in-None.ensures.arc)
    c.from_bound-in-None.result c.from_bound-in-None.ensures.exact
