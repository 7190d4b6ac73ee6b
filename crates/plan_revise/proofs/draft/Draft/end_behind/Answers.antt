use Rattle.std.proofs.Common.{◌<◌, ◌∙◌, List, length, take, drop, ap, arith}
use Rattle.shop_base.specs.declared.shop.Step.{Step}
use Rattle.shop_base.specs.Vectors.{lists_of, plan_of}
use Rattle.shop_base.specs.Plan.{PlannedShop}
use Rattle.plan_revise.specs.Orders.{removed}
use Rattle.plan_revise.specs.Ended.{with_job_ended}
use Rattle.plan_revise.proofs.Written.{row_set, row_read, length_lists, draft_ended}
use Rattle.plan_revise.proofs.draft.Draft.end_behind.Goals as goal

pub returns : goal.returns
returns c =
    let p : PlannedShop = record {
      shop = record { machines = c.self.inside.machines; routes = lists_of c.self.inside.routes.items; recirculates = c.self.inside.recirculates };
      plan = plan_of c.self.inside.release c.self.inside.budget c.self.inside.order c.self.inside.clean;
    } in
    let within : c.args.job < length c.self.inside.routes.items = omega (arith, c.requires.job, ap (λ (q : PlannedShop). length q.shop.routes) c.self.view_is, length_lists c.self.inside.routes.items) in
    let cut = row_set c.self.inside.routes.items c.args.job c.index_mut.result.now c.truncate.new.self (take c.args.count) within c.index_mut.ensures.value c.truncate.ensures.items in
    let out = c.take_out.ensures ∙ ap (λ (steps : List Step). removed c.args.job steps (lists_of c.self.inside.order.items)) (c.rest_of-rest.ensures ∙ ap (drop c.args.count) (c.deref.ensures.value ∙ row_read c.self.inside.routes.items c.args.job c.index.result.now within c.index.ensures)) in
    draft_ended p c.args.job c.args.count _ _ cut out ∙ ap (λ (q : PlannedShop). with_job_ended q c.args.job c.args.count) c.self.view_is
