use Rattle.std.proofs.Common.{◌≡◌, sym, subst}
use Rattle.std.proofs.lemmas.List.{get_or_read}
use Rattle.shop_base.specs.Plan.{PlannedShop}
use Rattle.shop_base.specs.Graph.{node}
use Rattle.alt_graph.specs.Places.{node_at}
use Rattle.alt_graph.specs.Sources.{IsJobArc, IsBlockingArc, IsTarget}
use Rattle.alt_graph.proofs.ArcKinds.{job_arc_is, blocking_arc_is}
use Rattle.plan_revise.specs.Reaching.{Reaches}
use Rattle.plan_revise.proofs.Searching.{target-reached, followed-more, on_both}
use Rattle.plan_revise.proofs.reaching.Found.follow.Goals as goal

pub mark-requires-clause-reached : goal.mark-requires-clause-reached
mark-requires-clause-reached c =
    let p : PlannedShop = c.args.graph.now.plan in
    let at : c.index-node.result.now ≡ node_at c.args.self.now.nodes.items c.args.place = get_or_read c.args.self.now.nodes.items c.args.place c.index-node.result.now c.requires.within c.index-node.ensures (node 0 0) in
    target-reached p (IsJobArc p) c.args.self.now.origin c.index-node.result.now (λ v d kind. (d, job_arc_is p c.index-node.result.now v d kind)) (subst (Reaches p c.args.self.now.origin) (sym at) (c.requires.found.reached c.args.place c.requires.within))
    c.job_target.result (subst (λ (x : PlannedShop). IsTarget (IsJobArc x) c.index-node.result.now c.job_target.result) c.shaped.ensures.plan c.job_target.ensures)

pub mark-requires-2-clause-reached : goal.mark-requires-2-clause-reached
mark-requires-2-clause-reached c =
    let p : PlannedShop = c.args.graph.now.plan in
    let at : c.index-node.result.now ≡ node_at c.args.self.now.nodes.items c.args.place = get_or_read c.args.self.now.nodes.items c.args.place c.index-node.result.now c.requires.within c.index-node.ensures (node 0 0) in
    target-reached p (IsBlockingArc p) c.mark.new.self.origin c.index-node.result.now (λ v d kind. (d, blocking_arc_is p c.index-node.result.now v d kind))
    (subst (λ u. Reaches p u c.index-node.result.now) (sym c.in_ok-mark.ensures.more.origin) (subst (Reaches p c.args.self.now.origin) (sym at) (c.requires.found.reached c.args.place c.requires.within))) c.blocking_target.result c.blocking_target.ensures

pub returns-clause-followed : goal.returns-clause-followed
returns-clause-followed c =
    let p : PlannedShop = c.args.graph.now.plan in
    let at : c.index-node.result.now ≡ node_at c.args.self.now.nodes.items c.args.place = get_or_read c.args.self.now.nodes.items c.args.place c.index-node.result.now c.requires.within c.index-node.ensures (node 0 0) in
    on_both c.mark-2.result _ _ _
    (λ more marked. followed-more c.args.graph.now c.shaped.ensures.sound c.args.self.now c.mark.new.self c.mark-2.new.self c.args.place c.index-node.result.now c.job_target.result c.blocking_target.result c.requires.followed c.requires.within at
    c.in_ok-mark.ensures.more more (subst (λ (x : PlannedShop). IsTarget (IsJobArc x) c.index-node.result.now c.job_target.result) c.shaped.ensures.plan c.job_target.ensures) c.in_ok-mark.ensures.marked c.blocking_target.ensures marked)
    c.mark-2.ensures.more c.mark-2.ensures.marked
