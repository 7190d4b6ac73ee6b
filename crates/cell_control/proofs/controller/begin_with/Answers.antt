use Rattle.std.proofs.Common.{◌∙◌, ap}
use Rattle.cell_control.proofs.Fields.{start_is, started}
use Rattle.cell_control.proofs.controller.begin_with.Goals as goal

pub returns-in-Ok-clause-start : goal.returns-in-Ok-clause-start
returns-in-Ok-clause-start g c = c.begin_at_rest.ensures ∙ start_is g.P.Timed.times _ _ _ _ c.in_ok-cell.ensures.start c.in-Ok.ensures.no_orders

pub begin_at_rest-requires-clause-control : goal.begin_at_rest-requires-clause-control
begin_at_rest-requires-clause-control g c = started g.P.Timed.times _ _ _ _ c.in_ok-cell.ensures.start c.in-Ok.ensures.no_orders c.requires

pub returns-in-Err-clause-handed_back : goal.returns-in-Err-clause-handed_back
returns-in-Err-clause-handed_back g c = c.into_basis.ensures ∙ ap (λ v. v.basis) c.in_ok-cell.ensures.start
