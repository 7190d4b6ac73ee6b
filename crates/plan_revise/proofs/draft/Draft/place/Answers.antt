use Rattle.std.proofs.Common.{◌∙◌, List, ap}
use Rattle.std.proofs.lemmas.List.{map-set}
use Rattle.shop_base.specs.declared.shop.Step.{Step}
use Rattle.std.proofs.Common.{Vec, Global}
use Rattle.shop_base.specs.Vectors.{lists_of, plan_of}
use Rattle.shop_base.specs.Plan.{PlannedShop}
use Rattle.plan_revise.specs.Orders.{put_last}
use Rattle.plan_revise.specs.Placed.{placed}
use Rattle.plan_revise.proofs.Written.{draft_placed}
use Rattle.plan_revise.proofs.draft.Draft.place.Goals as goal

pub returns : goal.returns
returns c =
    let p : PlannedShop = record {
      shop = record { machines = c.self.inside.machines; routes = lists_of c.self.inside.routes.items; recirculates = c.self.inside.recirculates };
      plan = plan_of c.self.inside.release c.self.inside.budget c.self.inside.order c.self.inside.clean;
    } in
    let put = c.in_ok-put_last.ensures ∙ ap (λ (steps : List Step). put_last c.args.job steps (lists_of c.self.inside.order.items)) c.deref.ensures.value in
    draft_placed p c.args.job c.args.route.items c.args.release c.args.budget _ _ (map-set (λ (r : Vec Step Global). r.items) c.self.inside.routes.items c.args.job c.args.route) put
    ∙ ap (λ (q : PlannedShop). placed q c.args.job c.args.route.items c.args.release c.args.budget) c.self.view_is
