use Rattle.std.proofs.Common.{rules, sym, ap, ◌∙◌}
use Rattle.shop_base.specs.Plan.{ShopPlan}
use Rattle.shop_base.specs.Shop.{JobShop}
use Rattle.run_pruning.proofs.WithoutSpare.{made-shaped}
use Rattle.run_pruning.proofs.spare.without_spare.Goals as goal

pub planned-requires : goal.planned-requires
planned-requires c =
    made-shaped c.args.shaped c.args.plant _ c.recirculates-recirculates.result c.narrowed_plan.result _ c.shop.ensures.well_shaped
    (sym c.has_spare.ensures ∙ search rules)
    c.in_ok-routes.ensures
    (c.recirculates-recirculates.ensures ∙ ap (λ (s : JobShop). s.recirculates) c.shop.ensures.same)
    (ap (λ (parts : JobShop × ShopPlan). parts.1) c.into_parts-plan.ensures)
    c.narrowed_plan.ensures
