use Rattle.std.proofs.Common.{◌≡◌, ℕ, ◌+◌, ◌<◌, length, arith, sym, ap, ◌∙◌, subst}
use Rattle.std.proofs.lemmas.List.{get_or_read}
use Rattle.shop_base.specs.declared.node.Node.{Node}
use Rattle.shop_base.specs.Plan.{PlannedShop, IsWellShaped}
use Rattle.shop_base.specs.Graph.{node}
use Rattle.alt_graph.specs.declared.times.TheConstants.{UNRANKED}
use Rattle.alt_graph.specs.Sources.{IsJobArc, IsBlockingArc, IsTarget}
use Rattle.alt_graph.specs.Ranking.{PlanRanking, IsSettled}
use Rattle.alt_graph.specs.Places.{node_at}
use Rattle.alt_graph.proofs.ArcKinds.{job_arc_is, blocking_arc_is, target_node, job_target_once, blocking_target_once}
use Rattle.alt_graph.proofs.Ranks.{ranks_of}
use Rattle.alt_graph.proofs.Settling.{grows_on, settled_still, settled_earlier, settled_next, target_settled, target_in}
use Rattle.alt_graph.proofs.ranking.Ranking.rank_after.Goals as goal

pub try_target-requires : goal.try_target-requires
try_target-requires g c =
    let p = c.args.self.now.plan in
    target_in p (IsJobArc p) c.index-node.result.now (λ v d arc. job_arc_is p c.index-node.result.now v d arc) c.job_target-target.result (rw c.shaped.ensures.plan at c.job_target-target.ensures)

pub try_target-requires-2 : goal.try_target-requires-2
try_target-requires-2 g c =
    let p = c.try_target.new.self.plan in
    let u = c.index-node.result.now in
    let to_block : IsTarget (IsBlockingArc p) u c.blocking_target-target.result =
    subst (λ (q : PlannedShop). IsTarget (IsBlockingArc q) u c.blocking_target-target.result) (ap (λ (r : PlanRanking). r.plan) c.self-2.view_is) c.blocking_target-target.ensures in
    target_in p (IsBlockingArc p) u (λ v d arc. blocking_arc_is p u v d arc) c.blocking_target-target.result to_block

pub returns-clause-grows : goal.returns-clause-grows
returns-clause-grows g c = grows_on _ _ _ c.try_target.ensures.grows c.try_target-2.ensures.grows

pub returns-clause-settled : goal.returns-clause-settled
returns-clause-settled g c =
    let old = c.args.self.now in
    let mid = c.try_target.new.self in
    let new = c.try_target-2.new.self in
    let p = old.plan in
    let shaped : IsWellShaped p = c.shaped.ensures.sound in
    let sound = ranks_of c.self.inside.graph _ _ _ _ _ _ c.self.view_is c.self.invariant in
    let done_is = ap (λ (r : PlanRanking). node_at r.done c.args.next) c.self.view_is in
    let within = subst (λ (r : PlanRanking). c.args.next < length r.done) (sym c.self.view_is) c.requires.next in
    let at : c.index-node.result.now ≡ node_at old.done c.args.next = get_or_read c.self.inside.done.items c.args.next c.index-node.result.now within c.index-node.ensures (node 0 0) ∙ done_is in
    let first = c.try_target.ensures in
    let second = c.try_target-2.ensures in
    let u = c.index-node.result.now in
    let to_block : IsTarget (IsBlockingArc p) u c.blocking_target-target.result =
    subst (λ (q : PlannedShop). IsTarget (IsBlockingArc q) u c.blocking_target-target.result) (ap (λ (r : PlanRanking). r.plan) c.self-2.view_is ∙ first.grows.plan) c.blocking_target-target.ensures in
    let jobs_settled : (v : Node) (d : ℕ) → IsJobArc p u v d → IsSettled mid UNRANKED v =
    target_settled (IsJobArc p) (job_target_once p shaped) mid UNRANKED u c.job_target-target.result (rw c.shaped.ensures.plan at c.job_target-target.ensures) first.settled in
    let blocks_settled : (v : Node) (d : ℕ) → IsBlockingArc p u v d → IsSettled new UNRANKED v =
    target_settled (IsBlockingArc p) (blocking_target_once p shaped) new UNRANKED u c.blocking_target-target.result to_block second.settled in
    settled_next old new c.args.next sound c.requires.next sound.few (grows_on old mid new first.grows second.grows) c.requires.settled
    (λ v d arc.
    let arc' : IsJobArc p u v d = subst (λ (w : Node). IsJobArc p w v d) (sym at) arc in
    settled_still mid new (c.args.next + 1) v (rw first.grows.plan (target_node p _ v d (job_arc_is p _ v d arc'))) second.grows (omega (arith, c.requires.next, first.grows.longer))
    (settled_earlier mid (c.args.next + 1) UNRANKED v (omega (arith, sound.few, c.requires.next)) (jobs_settled v d arc')))
    (λ v d arc.
    let arc' : IsBlockingArc p u v d = subst (λ (w : Node). IsBlockingArc p w v d) (sym at) arc in
    settled_earlier new (c.args.next + 1) UNRANKED v (omega (arith, sound.few, c.requires.next)) (blocks_settled v d arc'))
