use Rattle.std.proofs.Common.{◌≡◌, length, ap, arith}
use Rattle.shop_base.specs.Plan.{PlannedShop, jobs}
use Rattle.plan_revise.proofs.Written.{length_lists}
use Rattle.plan_revise.proofs.Holds.{held-place}
use Rattle.plan_revise.proofs.draft.Draft.place_next.Goals as goal

pub visit_at-requires : goal.visit_at-requires
visit_at-requires g c =
    let count : c.len-job.result ≡ jobs c.args.self.now = omega (arith, c.len-job.ensures, ap (λ (q : PlannedShop). length q.shop.routes) c.self.view_is, length_lists c.self.inside.routes.items) in
    rw (c.in_ok-place_new.ensures, c.new.ensures.items, c.present.ensures.present, count, c.entered.ensures.count)
    (held-place c.args.run.now c.entered.ensures.sound c.args.self.now c.requires.revision c.args.step c.requires.plant)

pub returns : goal.returns
returns g c =
    let count : c.len-job.result ≡ jobs c.args.self.now = omega (arith, c.len-job.ensures, ap (λ (q : PlannedShop). length q.shop.routes) c.self.view_is, length_lists c.self.inside.routes.items) in
    rw (c.in_ok-place_new.ensures, c.new.ensures.items, c.present.ensures.present, count, c.entered.ensures.count) at c.visit_at.ensures
