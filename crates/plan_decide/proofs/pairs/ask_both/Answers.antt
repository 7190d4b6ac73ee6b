use Rattle.std.proofs.Common.{refl, subst}
use Rattle.plan_decide.specs.declared.asked.Asked.TheVariants.{Both}
use Rattle.plan_decide.specs.Settings.{case_in}
use Rattle.plan_decide.specs.Cases.{case_jobs}
use Rattle.plan_decide.specs.Asking.{NoPlanKeeps}
use Rattle.plan_decide.specs.LeftOut.{CanKeep}
use Rattle.plan_decide.proofs.Limits.{both_excluded, impossible}
use Rattle.plan_decide.proofs.Leaving.{both_kept}
use Rattle.plan_decide.proofs.pairs.ask_both.Goals as goal

pub returns-in-Never : goal.returns-in-Never
returns-in-Never g c =
    let t = case_in c.args.setting.now in
    both_excluded t c.args.one c.args.other (impossible t (Both c.args.one c.args.other) (case_jobs t) c.in_ok-limits.limits.items refl c.in_ok-limits.ensures (subst (NoPlanKeeps t) c.deref.ensures.value (rw c.in-Never.is at c.in_ok-ask_few.ensures)))

pub returns-then-is_kept : goal.returns-then-is_kept
returns-then-is_kept g c =
    let t = case_in c.args.setting.now in
    both_kept t c.args.one c.args.other c.in_ok-limits.limits.items c.in_ok-limits.ensures c.requires.promised.0 c.requires.promised.1 (subst (CanKeep t) c.deref-in-Orders.ensures.value (c.in_ok-is_kept-in-Orders.ensures c.if-is_kept.true))
