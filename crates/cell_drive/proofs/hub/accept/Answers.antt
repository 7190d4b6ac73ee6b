use Rattle.std.proofs.Common.{◌≡◌, Bool, subst}
use Rattle.shop_base.specs.declared.report.Report.{Report}
use Rattle.byte_streams.specs.Lent.{WroteTo}
use Rattle.cell_control.specs.Control.{Control, IsControl}
use Rattle.cell_drive.specs.Replies.{reported_lines}
use Rattle.cell_drive.proofs.SeatedCells.{one_content}
use Rattle.cell_drive.proofs.hub.accept.Goals as goal

pub controller_of-controller-requires : goal.controller_of-controller-requires
controller_of-controller-requires g c = (c.accept.ensures.reported.after, c.accept.ensures.reported.cells.changed)

pub returns : goal.returns
returns g c =
    let is = c.accept.ensures.reported in
    let acceptance = c.args.acceptance in
    let same : c.controller_of-controller.result.now ≡ is.after = one_content c.accept.new.self c.args.ticket _ _ c.controller_of-controller.ensures is.cells.changed in (
      (c.accept.result, is),
      subst IsControl same c.shaped-plan.ensures.control,
      subst (λ (new : Control). WroteTo g.W.Sink c.put_acceptance.result c.args.writer.now c.put_acceptance.new.writer (reported_lines c.args.protocol c.args.prefix.now new acceptance.possible.report acceptance.possible.late acceptance.overdue)) same
          (subst (λ (late : Bool). WroteTo g.W.Sink c.put_acceptance.result c.args.writer.now c.put_acceptance.new.writer (reported_lines c.args.protocol c.args.prefix.now c.controller_of-controller.result.now acceptance.possible.report late acceptance.overdue)) c.is_late-late.ensures
          (subst (λ (r : Report). WroteTo g.W.Sink c.put_acceptance.result c.args.writer.now c.put_acceptance.new.writer (reported_lines c.args.protocol c.args.prefix.now c.controller_of-controller.result.now r c.is_late-late.result acceptance.overdue)) c.report-report.ensures
          c.put_acceptance.ensures.wrote)),
      c.put_acceptance.ensures.unfailed,
    )
