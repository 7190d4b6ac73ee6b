use Rattle.std.proofs.Common.{◌≡◌, ◌↔◌, ap, subst}
use Rattle.shop_base.specs.{Ends.HasEnded, ReportsLeft.reports_left}
use Rattle.cell_control.specs.Control.{Control}
use Rattle.cell_control.proofs.Reading.{ended_is}
use Rattle.cell_control.proofs.core_controller.Core.reports_left.Goals as goal

pub returns-clause-kept : goal.returns-clause-kept
returns-clause-kept g c = ap (λ v. v.left) c.self.view_is

pub returns-clause-left : goal.returns-clause-left
returns-clause-left g c = subst (λ (v : Control). c.self.inside.left ≡ reports_left v.planned v.cell) c.self.view_is c.self.invariant.control.counted

pub returns-clause-ended : goal.returns-clause-ended
returns-clause-ended g c =
    let control = c.self.invariant.control in
    subst (λ (v : Control). HasEnded v.planned v.cell ↔ (c.self.inside.left ≡ 0)) c.self.view_is
    (ended_is _ _ c.self.inside.left control.ranks.shaped control.sound control.at_rest control.counted)
