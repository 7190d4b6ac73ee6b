use Rattle.std.proofs.Common.{◌≡◌, ◌<◌, length, sym, ap, ◌∙◌, subst, arith}
use Rattle.std.proofs.lemmas.List.{get_or_read}
use Rattle.shop_base.specs.Plan.{PlannedShop, budget}
use Rattle.plan_revise.specs.Ended.{with_job_ended}
use Rattle.plan_revise.specs.Dates.{promised_by}
use Rattle.plan_revise.specs.AnotherWay.{AreFurthestBehind}
use Rattle.plan_revise.specs.Fits.{IsRevision}
use Rattle.plan_revise.proofs.Revisions.{cut-revision}
use Rattle.plan_revise.proofs.draft.Draft.send_inside.Goals as goal

pub send_on_all-requires-clause-revision : goal.send_on_all-requires-clause-revision
send_on_all-requires-clause-revision g c =
    subst (IsRevision c.args.run.now) (sym (c.end_behind.ensures ∙ ap (with_job_ended c.args.self.now c.args.job) c.moves_made.ensures.count))
    (cut-revision c.args.run.now c.plant-plant.ensures.sound c.args.self.now c.args.job c.args.steps.now c.args.self.now c.requires.revision c.requires.can c.requires.inside c.requires.sound)

pub index_mut-requires : goal.index_mut-requires
index_mut-requires g c = omega (arith, c.in_ok-send_on_all.ensures.job, c.in_ok-send_on_all.ensures.revision.fit.counts.budgets, ap (λ (q : PlannedShop). length q.plan.budget) c.self-2.view_is, c.self-2.inside.budget.ok.0)

pub returns-clause-sent : goal.returns-clause-sent
returns-clause-sent g c =
    let p : PlannedShop = c.args.self.now in
    let within : c.args.job < length c.self.inside.budget.items = omega (arith, c.requires.can.in_shop, c.requires.revision.fit.counts.budgets, ap (λ (q : PlannedShop). length q.plan.budget) c.self.view_is) in
    let value : c.index-budget.result.now ≡ budget p c.args.job = get_or_read c.self.inside.budget.items c.args.job c.index-budget.result.now within c.index-budget.ensures 0 ∙ ap (λ (q : PlannedShop). budget q c.args.job) c.self.view_is in
    record {
      sent = c.send_on_all.new.self;
      behind = subst (λ (q : PlannedShop). AreFurthestBehind c.args.run.now q c.args.job c.args.steps.now c.send_on_all.new.self) (c.end_behind.ensures ∙ ap (with_job_ended p c.args.job) c.moves_made.ensures.count) c.in_ok-send_on_all.ensures.sent;
      is = ap (λ (q : PlannedShop). promised_by q c.args.job c.index-budget.result.now) c.self-2.view_is ∙ ap (promised_by c.send_on_all.new.self c.args.job) value;
    }
