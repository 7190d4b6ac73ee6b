use Rattle.std.proofs.Common.{sym, ap, ◌∙◌, subst}
use Rattle.shop_base.specs.Plan.{PlannedShop, ShopPlan, IsWellShaped}
use Rattle.shop_base.specs.Shop.{JobShop}
use Rattle.shop_base.specs.Vectors.{lists_of, list_of}
use Rattle.run_pruning.specs.Staying.{staying}
use Rattle.run_pruning.specs.Pruned.{pruned}
use Rattle.run_pruning.proofs.PrunedShops.{pruned-shaped, planned_parts}
use Rattle.run_pruning.proofs.pruning.prune.Goals as goal

pub planned-requires : goal.planned-requires
planned-requires c =
    let p : PlannedShop = c.args.shaped.now in
    let known = c.plan-plan.ensures.same in
    let seen = c.plan.view_is in
    let times = c.as_slice.ensures.value in
    let more = c.as_slice-2.ensures.value in
    let whole = planned_parts (pruned c.args.kept.now p) c.machine_count.result c.recirculates.result (lists_of c.in_ok-routes.routes.items) c.in_ok-kept_times.field-0.items c.in_ok-kept_times-2.field-0.items
    (lists_of c.in_ok-kept_orders.field-0.items) (list_of c.in_ok-copy_cleanings.field-0)
    c.machine_count.ensures.count (c.recirculates.ensures ∙ ap (λ (s : JobShop). s.recirculates) c.shop.ensures.same) c.in_ok-routes.ensures
    (c.in_ok-kept_times.ensures ∙ ap (staying c.args.kept.now) (times ∙ ap (λ (x : ShopPlan). x.release) (seen ∙ known)))
    (c.in_ok-kept_times-2.ensures ∙ ap (staying c.args.kept.now) (more ∙ ap (λ (x : ShopPlan). x.budget) (seen ∙ known)))
    c.in_ok-kept_orders.ensures
    (c.in_ok-copy_cleanings.ensures ∙ ap (λ (x : ShopPlan). x.clean) known) in
    subst IsWellShaped (sym whole) (pruned-shaped p c.args.kept.now c.requires.count c.plan-plan.ensures.well_shaped c.requires.some c.requires.some_stays)
