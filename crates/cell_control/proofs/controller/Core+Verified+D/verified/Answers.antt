use Rattle.std.proofs.Common.{sym, ◌∙◌, ap, subst}
use Rattle.plan_verifier.specs.Accepted.{VerifiedPlan, IsVerified}
use Rattle.cell_control.specs.Control.{IsControl, verified_in}
use Rattle.cell_control.proofs.controller.Core+Verified+D.verified.Goals as goal

pub returns-clause-plan : goal.returns-clause-plan
returns-clause-plan g c =
    c.basis-verified.ensures.basis
    ∙ ap (λ q. let v : VerifiedPlan = record { planned = q; times = c.self.inside.cell.basis.times } in v) (sym c.basis-verified.ensures.plan)
    ∙ ap verified_in c.self.view_is

pub returns-clause-verified : goal.returns-clause-verified
returns-clause-verified g c = subst IsVerified (returns-clause-plan g c) c.shaped-plan.ensures.verified

pub returns-clause-control : goal.returns-clause-control
returns-clause-control g c = subst IsControl c.self.view_is c.self.invariant.control
