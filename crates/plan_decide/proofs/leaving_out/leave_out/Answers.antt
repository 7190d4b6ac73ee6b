use Rattle.std.proofs.Common.{arith, refl, subst, vec_len}
use Rattle.shop_base.specs.Plan.{jobs}
use Rattle.plan_decide.specs.Settings.{case_in}
use Rattle.plan_decide.specs.LeftOut.{AreLimited}
use Rattle.plan_decide.proofs.Collecting.{some_listed}
use Rattle.plan_decide.proofs.Leaving.{several}
use Rattle.plan_decide.proofs.leaving_out.leave_out.Goals as goal

pub returns-clause-found : goal.returns-clause-found
returns-clause-found g c =
    let t = case_in c.args.setting.now in
    let n = jobs c.args.setting.now.plan in
    let left = c.loop-job.left in
    let known = c.loop-job.invariant in
    let js = c.in_ok-jobs.jobs in
    let named = subst (λ limits. AreLimited limits n js.items) c.deref.ensures.value c.in_ok-jobs.ensures in
    several t left.limits.items n js.items refl known.promised named js left.or_fewer refl
    (some_listed js.items (vec_len js) c.is_empty.result (omega (arith, js.ok.0)) c.is_empty.ensures c.if-is_empty.false) known.none
    (λ closed j k _ limit. known.needed closed j k (omega (arith, c.loop-job-test.false)) limit)
