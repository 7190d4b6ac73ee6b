use Rattle.std.proofs.Common.{subst}
use Rattle.plan_decide.specs.Cases.{with_budgets}
use Rattle.plan_decide.specs.Decisions.{IsAcceptedWith}
use Rattle.plan_decide.specs.Settings.{case_in, plan_of}
use Rattle.plan_decide.proofs.Leaving.{accepted_keeps}
use Rattle.plan_decide.proofs.keeping.keeps.Goals as goal

pub returns-in-Some : goal.returns-in-Some
returns-in-Some g c =
    let t = case_in c.args.setting.now in
    let is = subst (λ budget. IsAcceptedWith (with_budgets t budget) (plan_of c.in-Some.kept)) c.in_ok-budget.ensures (rw c.in-Some.is at c.in_ok-kept.ensures.accepted) in
    λ does. accepted_keeps t c.args.limits.now (plan_of c.in-Some.kept) c.requires is
