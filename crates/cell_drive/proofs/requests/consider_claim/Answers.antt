use Rattle.std.proofs.Common.{◌≡◌, ap, inl, refl, ◌∙◌}
use Rattle.shop_base.specs.{declared.report.Report.Report, Plan.PlannedShop, Cell.Cell}
use Rattle.cell_tables.specs.Claims.{claimed}
use Rattle.cell_drive.specs.{ProtocolText.printed_overdue, Replies.RefusedBy}
use Rattle.cell_drive.proofs.LineAnswers.{of_texts}
use Rattle.cell_drive.proofs.requests.consider_claim.Goals as goal

pub returns-in-Ok-clause-accepted : goal.returns-in-Ok-clause-accepted
returns-in-Ok-clause-accepted g c =
    let v = c.args.controller.now in
    let protocol = c.args.protocol in
    let cell = c.work_cell.result.now in
    let examined = c.in-Ok.ensures.examined in
    let report_is : c.report-report.result ≡ claimed v.planned c.args.claim = c.report-report.ensures ∙ examined.0 in
    record {
      claim = c.args.claim;
      asked = refl;
      admissible = c.in-Ok.ensures.accepted;
      examined = examined;
      overdue_is = c.printed_overdue-overdue.ensures ∙ ap (λ (p : PlannedShop). printed_overdue protocol p cell.cell c.report-report.result) c.work_cell.ensures.plan
          ∙ ap (λ (x : Cell). printed_overdue protocol v.planned x c.report-report.result) c.work_cell.ensures.cell
          ∙ ap (λ (r : Report). printed_overdue protocol v.planned v.cell r) report_is;
    }

pub returns-in-Err-clause-answered : goal.returns-in-Err-clause-answered
returns-in-Err-clause-answered g c =
    let v = c.args.controller.now in
    of_texts (RefusedBy c.args.protocol c.args.prefix.now v c.args.number c.args.claim) _ c.refuse.result _ _ (λ text is. inl is) c.refuse.ensures
