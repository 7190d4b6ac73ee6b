use Rattle.std.proofs.Common.{◌<◌, ◌∙◌, List, [], ◌∷◌, ◌++◌, ℕ, length, ap, arith}
use Rattle.std.specs.Prelude.{insert}
use Rattle.shop_base.specs.declared.shop.Step.{Step}
use Rattle.shop_base.specs.Vectors.{lists_of, plan_of}
use Rattle.shop_base.specs.Plan.{PlannedShop}
use Rattle.plan_revise.specs.AnotherWay.{with_visit_at}
use Rattle.plan_revise.proofs.Written.{row_set, length_lists, draft_visit}
use Rattle.plan_revise.proofs.draft.Draft.visit_at.Goals as goal

pub returns : goal.returns
returns c =
    let p : PlannedShop = record {
      shop = record { machines = c.self.inside.machines; routes = lists_of c.self.inside.routes.items; recirculates = c.self.inside.recirculates };
      plan = plan_of c.self.inside.release c.self.inside.budget c.self.inside.order c.self.inside.clean;
    } in
    let in_orders : c.args.step.machine < length c.self.inside.order.items = omega (arith, c.requires.in_shop, c.requires.rows, ap (λ (q : PlannedShop). length q.plan.order) c.self.view_is, length_lists c.self.inside.order.items) in
    let in_routes : c.args.job < length c.self.inside.routes.items = omega (arith, c.requires.inside, ap (λ (q : PlannedShop). length q.shop.routes) c.self.view_is, length_lists c.self.inside.routes.items) in
    let orders = row_set c.self.inside.order.items c.args.step.machine c.index_mut.result.now c.insert.new.self (λ (xs : List ℕ). insert xs c.args.place c.args.job) in_orders c.index_mut.ensures.value c.in_ok-insert.ensures.items in
    let routes = row_set c.self.inside.routes.items c.args.job c.index_mut-2.result.now c.push.new.self (λ (r : List Step). r ++ c.args.step ∷ []) in_routes c.index_mut-2.ensures.value c.in_ok-push.ensures.items in
    draft_visit p c.args.job c.args.step c.args.place _ _ routes orders ∙ ap (λ (q : PlannedShop). with_visit_at q c.args.job c.args.step c.args.place) c.self.view_is
