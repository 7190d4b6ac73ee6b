use Rattle.std.proofs.{Common.{refl, sym, subst}, lemmas.Result.err_from_is_err_and}
use Rattle.shop_base.specs.Report.{CanReport, IsNextMoment}
use Rattle.shop_base.proofs.Decisions.{moment_now}
use Rattle.cell_control.specs.Control.{Control}
use Rattle.cell_control.proofs.Reasons.{reason-cannot}
use Rattle.cell_control.proofs.core_controller.Core.examine.Goals as goal

pub examined-requires : goal.examined-requires
examined-requires g c = subst (λ (v : Control). CanReport v.planned v.cell c.args.report) c.self.view_is c.in_ok-check_report.ensures.possible

pub returns-clause-possible : goal.returns-clause-possible
returns-clause-possible g c =
    let can = subst (λ (v : Control). CanReport v.planned v.cell c.args.report) c.self.view_is c.in_ok-check_report.ensures.possible in
    (λ _. can, λ _. refl)

pub returns-clause-never_refused : goal.returns-clause-never_refused
returns-clause-never_refused g c = λ due goes now. refl

pub returns-in_err-check_report-clause-possible : goal.returns-in_err-check_report-clause-possible
returns-in_err-check_report-clause-possible g c =
    let p = err_from_is_err_and c.from_residual.result c.from_residual.ensures.1 in
    let cannot = reason-cannot _ _ c.args.report _ c.self.invariant.control.sound c.in_err-check_report.ensures.first in
    rw (p.1, ← c.self.view_is) ((λ wrong. absurd (cc)), λ can. absurd (cannot can))

pub returns-in_err-check_report-clause-first_reason : goal.returns-in_err-check_report-clause-first_reason
returns-in_err-check_report-clause-first_reason g c =
    let p = err_from_is_err_and c.from_residual.result c.from_residual.ensures.1 in
    rw (p.1, p.2, ← c.self.view_is) c.in_err-check_report.ensures.first

pub returns-in_err-check_report-clause-never_refused : goal.returns-in_err-check_report-clause-never_refused
returns-in_err-check_report-clause-never_refused g c =
    let cell = c.self.inside.cell.cell in
    let sound = c.self.invariant.control.sound in
    let cannot = reason-cannot _ _ c.args.report _ sound c.in_err-check_report.ensures.first in
    rw (← c.self.view_is) λ due goes now. absurd (cannot (record { going = (due, goes); moment = subst (IsNextMoment cell) (sym now) (moment_now _ cell sound) }))
