use Rattle.std.proofs.Common.{◌<◌, ◌∙◌, List, length, set, ap, arith}
use Rattle.shop_base.specs.declared.shop.Step.{Step}
use Rattle.shop_base.specs.Shop.{step_at}
use Rattle.shop_base.specs.Vectors.{lists_of, plan_of}
use Rattle.shop_base.specs.Plan.{PlannedShop, steps}
use Rattle.plan_revise.specs.Changes.{lasting}
use Rattle.plan_revise.proofs.Written.{row_set, row_read, length_lists, draft_lasting, step_written}
use Rattle.plan_revise.proofs.draft.Draft.last_for.Goals as goal

pub returns : goal.returns
returns c =
    let p : PlannedShop = record {
      shop = record { machines = c.self.inside.machines; routes = lists_of c.self.inside.routes.items; recirculates = c.self.inside.recirculates };
      plan = plan_of c.self.inside.release c.self.inside.budget c.self.inside.order c.self.inside.clean;
    } in
    let within : c.args.job < length c.self.inside.routes.items = omega (arith, c.requires.job, ap (λ (q : PlannedShop). length q.shop.routes) c.self.view_is, length_lists c.self.inside.routes.items) in
    let row = row_read c.self.inside.routes.items c.args.job c.index_mut.result.now within c.index_mut.ensures.value in
    let place : c.args.place < length c.index_mut.result.now.items = omega (arith, c.requires.place, ap (λ (q : PlannedShop). steps q c.args.job) c.self.view_is, ap length row) in
    let write = row_set c.self.inside.routes.items c.args.job c.index_mut.result.now _ (λ (r : List Step). set r c.args.place (record { machine = (step_at r c.args.place).machine; nominal = c.args.time })) within c.index_mut.ensures.value
    (step_written c.index_mut.result.now.items c.args.place c.args.time c.index_mut-2.result.now place c.index_mut-2.ensures.value) in
    draft_lasting p c.args.job c.args.place c.args.time _ write ∙ ap (λ (q : PlannedShop). lasting q c.args.job c.args.place c.args.time) c.self.view_is
