use Rattle.std.proofs.{Common.{[], refl, subst}, lemmas.{Bool.false≢true, Result.err_from_is_err_and}}
use Rattle.shop_base.specs.declared.report.Report.{Report}
use Rattle.cell_control.specs.{Control.IsAnswered, Promises.{answered, refused}}
use Rattle.cell_control.proofs.OneReason.{only_reason}
use Rattle.cell_control.proofs.core_controller.Core.report.Goals as goal

pub accept-requires : goal.accept-requires
accept-requires g c = c.in_ok-possible.ensures.examined.1

pub returns-in_err-possible-clause-possible : goal.returns-in_err-possible-clause-possible
returns-in_err-possible-clause-possible g c =
    let p = err_from_is_err_and c.from_residual.result c.from_residual.ensures.1 in
    rw p.1 c.in_err-possible.ensures.possible

pub returns-in_err-possible-clause-first_reason : goal.returns-in_err-possible-clause-first_reason
returns-in_err-possible-clause-first_reason g c =
    let p = err_from_is_err_and c.from_residual.result c.from_residual.ensures.1 in
    rw (p.1, p.2) c.in_err-possible.ensures.first_reason

pub returns-in_err-possible-clause-only_reason : goal.returns-in_err-possible-clause-only_reason
returns-in_err-possible-clause-only_reason g c =
    let p = err_from_is_err_and c.from_residual.result c.from_residual.ensures.1 in
    rw (p.1, p.2) (only_reason _ _ _ _ c.in_err-possible.ensures.first_reason)

pub returns-in_err-possible-clause-unchanged : goal.returns-in_err-possible-clause-unchanged
returns-in_err-possible-clause-unchanged g c =
    let p = err_from_is_err_and c.from_residual.result c.from_residual.ensures.1 in
    rw p.1 refl

pub returns-in_err-possible-clause-called : goal.returns-in_err-possible-clause-called
returns-in_err-possible-clause-called g c = ([], refused c.args.self.now c.args.report (λ can. false≢true (c.in_err-possible.ensures.possible.1 can)))

pub returns-in_err-possible-clause-never_refused : goal.returns-in_err-possible-clause-never_refused
returns-in_err-possible-clause-never_refused g c =
    let p = err_from_is_err_and c.from_residual.result c.from_residual.ensures.1 in
    rw p.1 c.in_err-possible.ensures.never_refused

pub returns-clause-possible : goal.returns-clause-possible
returns-clause-possible g c = c.in_ok-possible.ensures.possible

pub returns-clause-answered : goal.returns-clause-answered
returns-clause-answered g c = subst (λ (r : Report). IsAnswered c.args.self.now r c.accept.result c.accept.new.self) c.in_ok-possible.ensures.examined.0 c.accept.ensures.answered

pub returns-clause-called : goal.returns-clause-called
returns-clause-called g c = (_, answered c.args.self.now c.args.report c.accept.result c.accept.new.self (returns-clause-answered g c))

pub returns-clause-never_refused : goal.returns-clause-never_refused
returns-clause-never_refused g c = λ due goes now. refl
