use Rattle.std.proofs.Common.{sym, ap, ◌∙◌}
use Rattle.shop_base.specs.declared.limits.TheConstants.{MAX_MOMENT}
use Rattle.shop_base.specs.Vectors.{lists_of}
use Rattle.plan_decide.specs.Settings.{case_in, plan_of}
use Rattle.plan_decide.proofs.Values.{leaving_again}
use Rattle.plan_decide.proofs.halving.plan_at.Goals as goal

pub returns-in-Some-2 : goal.returns-in-Some-2
returns-in-Some-2 g c =
    let by = rw c.in-Some.is at c.in_ok-value.ensures in
    let plan = rw c.in-Some-2.is at c.in_ok-plan.ensures.accepted in
    let same = by.order ∙ ap lists_of c.deref.ensures.value ∙ sym (rw c.in-Some-2.is at c.in_ok-plan.ensures.order) in
    record {
      plan = plan;
      fits = rw c.in-Some-2.is at c.in_ok-plan.ensures.fits;
      value = leaving_again (case_in c.args.setting.now) c.args.job MAX_MOMENT c.in-Some.value by.plan (plan_of c.in-Some-2.plan) by.accepted plan same by.leaves;
    }
