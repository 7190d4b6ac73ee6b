use Rattle.std.proofs.Common.{◌∙◌, ap, subst}
use Rattle.std.specs.Prelude.{IfOk, IsTrue, ◌↔◌}
use Rattle.shop_base.specs.Plan.{PlannedShop}
use Rattle.plan_verifier.specs.Accepted.{HasNoCycle}
use Rattle.plan_revise.specs.AnotherWay.{with_visit_at}
use Rattle.plan_revise.proofs.draft.Draft.is_free_at.Goals as goal

pub returns : goal.returns
returns c = subst (λ (p : PlannedShop). IfOk c.is_acyclic-2.result (λ free. IsTrue free ↔ HasNoCycle p))
    (c.into_shaped.ensures ∙ c.in_ok-visit_at.ensures ∙ ap (λ (p : PlannedShop). with_visit_at p c.args.job c.args.step c.args.place) c.in_ok-trial.ensures) c.is_acyclic-2.ensures
