use Rattle.std.proofs.Common.{◌∙◌, ap, subst}
use Rattle.cell_control.specs.Control.{IsControl}
use Rattle.cell_control.proofs.core_controller.Core.shaped.Goals as goal

pub returns-clause-plan : goal.returns-clause-plan
returns-clause-plan g c = c.shaped.ensures.plan ∙ ap (λ v. v.planned) c.self.view_is

pub returns-clause-control : goal.returns-clause-control
returns-clause-control g c = subst IsControl c.self.view_is c.self.invariant.control
