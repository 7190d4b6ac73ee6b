use Rattle.std.proofs.Common.{◌<◌, length, ap, arith}
use Rattle.std.proofs.lemmas.Result.{err_from_is_err_and}
use Rattle.shop_base.specs.declared.limits.TheConstants.{MAX_JOBS}
use Rattle.shop_base.specs.Plan.{PlannedShop, jobs}
use Rattle.plan_revise.proofs.{AddRefused.route_refused, Written.length_lists}
use Rattle.plan_revise.proofs.draft.Draft.check_job.Goals as goal

pub returns-in_err-check_route-clause-fault : goal.returns-in_err-check_route-clause-fault
returns-in_err-check_route-clause-fault g c =
    let exit = err_from_is_err_and c.from_residual.result c.from_residual.ensures.1 in
    let few : jobs c.args.self.now < MAX_JOBS =
    omega (arith, c.len.ensures, ap (λ (q : PlannedShop). length q.shop.routes) c.self.view_is, length_lists c.self.inside.routes.items, c.self.inside.routes.ok.0) in
    rw (exit.1, exit.2) (route_refused c.args.run.now c.args.self.now c.args.steps.now c.args.release c.args.budget c.in_err-check_route.field-0.0 few (rw (c.plant.ensures.plant, ap (λ (q : PlannedShop). q.shop.recirculates) c.self.view_is) at c.in_err-check_route.ensures.fault))
