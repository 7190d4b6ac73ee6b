use Rattle.std.proofs.Common.{Bool, refl, sym, ◌∙◌, subst}
use Rattle.plan_decide.specs.declared.asked.Asked.TheVariants.{Both}
use Rattle.plan_decide.specs.Settings.{past_by, case_in}
use Rattle.plan_decide.specs.Cases.{case_jobs}
use Rattle.plan_decide.specs.Asking.{NoPlanKeeps}
use Rattle.plan_decide.specs.Excluding.{IsLateAlone}
use Rattle.plan_decide.proofs.Limits.{both_excluded, impossible}
use Rattle.plan_decide.proofs.Collecting.{alone_exclusion, excluded_once}
use Rattle.plan_decide.proofs.standing.doubted.Goals as goal

pub returns-in-Never : goal.returns-in-Never
returns-in-Never g c =
    let s = c.args.setting.now in
    let t = case_in s in
    let j = c.args.job in
    let none = subst (NoPlanKeeps t) c.deref.ensures.value (rw c.in-Never.is at c.in_ok-ask_few.ensures) in
    alone_exclusion t j c.requires.promised (excluded_once t j (both_excluded t j j (impossible t (Both j j) (case_jobs t) c.in_ok-limits.limits.items refl c.in_ok-limits.ensures none)))
    (subst (λ (b : Bool). IsLateAlone (past_by b s.plan s.cell s.present) t j) (sym (sym c.is_whole.ensures.whole ∙ c.if-is_whole.false)) tt)
