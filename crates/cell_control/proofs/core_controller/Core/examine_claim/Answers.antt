use Rattle.std.proofs.Common.{◌≡◌, ◌∙◌, sym, subst}
use Rattle.shop_base.specs.Report.{CanReport}
use Rattle.cell_tables.specs.Claims.{claimed}
use Rattle.cell_control.specs.{Control.Control, Claims.CanClaim}
use Rattle.cell_control.proofs.ClaimReasons.{claim_can}
use Rattle.cell_control.proofs.core_controller.Core.examine_claim.Goals as goal

pub examined-requires : goal.examined-requires
examined-requires g c =
    let can = subst (λ (v : Control). CanClaim v.planned v.cell c.args.claim) c.self.view_is c.in_ok-report.ensures.possible in
    let is = subst (λ (v : Control). c.in_ok-report.report ≡ claimed v.planned c.args.claim) c.self.view_is c.in_ok-report.ensures.report in
    subst (CanReport c.args.self.now.planned c.args.self.now.cell) (sym is) (claim_can _ _ c.args.claim can)

pub returns-clause-examined : goal.returns-clause-examined
returns-clause-examined g c =
    let is = subst (λ (v : Control). c.in_ok-report.report ≡ claimed v.planned c.args.claim) c.self.view_is c.in_ok-report.ensures.report in
    (c.examined.ensures.0 ∙ is, c.examined.ensures.1)
