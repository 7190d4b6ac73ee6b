use Rattle.std.proofs.Common.{◌<◌, length, sym, subst, ap, ◌∙◌, arith}
use Rattle.shop_base.specs.Plan.{PlannedShop, jobs}
use Rattle.plan_revise.specs.Ended.{with_job_ended}
use Rattle.plan_revise.specs.Aside.{with_aside}
use Rattle.plan_revise.specs.Fits.{IsFit}
use Rattle.plan_revise.proofs.EndedParts.{ended-fit}
use Rattle.plan_revise.proofs.Revisions.{HasAside, has_aside}
use Rattle.plan_revise.proofs.draft.Draft.put_aside.Goals as goal

pub end_behind-requires-clause-fit : goal.end_behind-requires-clause-fit
end_behind-requires-clause-fit g c = subst IsFit (sym c.in_ok-bring_aside.ensures) (has_aside c.args.run.now c.args.self.now c.requires.revision c.requires.room).fit

pub place-requires-clause-fit : goal.place-requires-clause-fit
place-requires-clause-fit g c =
    let first : HasAside c.args.run.now c.args.self.now (with_aside c.args.run.now c.args.self.now) = has_aside c.args.run.now c.args.self.now c.requires.revision c.requires.room in
    let inside : c.args.job < jobs (with_aside c.args.run.now c.args.self.now) = omega (arith, c.requires.job, ap length first.routes) in
    subst IsFit (sym (c.end_behind.ensures ∙ ap (λ (p : PlannedShop). with_job_ended p c.args.job 0) c.in_ok-bring_aside.ensures)) (ended-fit (with_aside c.args.run.now c.args.self.now) c.args.job first.fit inside 0)
