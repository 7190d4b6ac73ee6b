use Rattle.std.proofs.Common.{◌≡◌, ◌∙◌, sym, ap, subst}
use Rattle.shop_base.specs.declared.node.Node.{Node}
use Rattle.shop_base.specs.Plan.{PlannedShop, steps}
use Rattle.shop_base.specs.Graph.{node, leaving}
use Rattle.plan_revise.specs.Reaching.{AreReached, IsFirstReached}
use Rattle.plan_revise.proofs.draft.Draft.furthest_place.Goals as goal

pub first_left-requires-clause-reached : goal.first_left-requires-clause-reached
first_left-requires-clause-reached c = subst (λ (u : Node). AreReached c.in_ok-graph.graph u c.in_ok-found.found) (sym c.in_ok-found.ensures.origin) c.in_ok-found.ensures

pub returns : goal.returns
returns c =
    let plan : c.in_ok-graph.graph.plan ≡ c.args.self.now = c.in_ok-graph.ensures.graph.plan ∙ c.into_shaped-shaped.ensures ∙ c.in_ok-copy.ensures in
    let place : c.step_count-place.result ≡ steps c.args.self.now c.args.job = c.step_count-place.ensures.count ∙ ap (λ (p : PlannedShop). steps p c.args.job) (c.into_shaped-shaped.ensures ∙ c.in_ok-copy.ensures) in
    let origin : c.in_ok-found.found.origin ≡ leaving c.args.self.now c.args.job = c.in_ok-found.ensures.origin ∙ ap (node c.args.job) place in
    subst (λ (p : PlannedShop). IsFirstReached p (leaving c.args.self.now c.args.job) c.args.machine c.args.first c.first_left.result) plan
    (subst (λ (u : Node). IsFirstReached c.in_ok-graph.graph.plan u c.args.machine c.args.first c.first_left.result) origin c.first_left.ensures)
