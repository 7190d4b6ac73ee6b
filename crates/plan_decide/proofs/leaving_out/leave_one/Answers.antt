use Rattle.std.proofs.Common.{set, true, None, refl, ap, ◌∙◌, subst}
use Rattle.plan_decide.specs.Settings.{case_in}
use Rattle.plan_decide.specs.LeftOut.{CanKeep}
use Rattle.plan_decide.proofs.Leaving.{left_out, left_needed, left_open}
use Rattle.plan_decide.proofs.leaving_out.leave_one.Goals as goal

pub returns-in-LeftOut : goal.returns-in-LeftOut
returns-in-LeftOut g c =
    let t = case_in c.args.setting.now in
    let spared = rw c.in-LeftOut.is at c.in_ok-limits.ensures in
    left_out t c.args.left (record { limits = c.in-LeftOut.limits; or_fewer = c.args.left.or_fewer }) c.args.job c.requires.job refl
    (spared.0 ∙ ap (λ limits. set limits c.args.job None) c.deref.ensures.value) spared.1 c.requires.left

pub returns-in-Needed : goal.returns-in-Needed
returns-in-Needed g c =
    let t = case_in c.args.setting.now in
    let spared = rw c.in-Needed.is at c.in_ok-limits.ensures in
    left_needed t c.args.left c.args.job (subst (λ limits. CanKeep t (set limits c.args.job None)) c.deref.ensures.value spared) c.requires.left

pub returns-in-Open : goal.returns-in-Open
returns-in-Open g c =
    left_open (case_in c.args.setting.now) c.args.left (record { limits = c.args.left.limits; or_fewer = true }) c.args.job refl refl c.requires.left
