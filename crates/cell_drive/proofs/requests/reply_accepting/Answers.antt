use Rattle.std.proofs.Common.{Bool, Some, ap, subst}
use Rattle.shop_base.specs.declared.report.Report.{Report}
use Rattle.byte_streams.specs.Lent.{WroteTo}
use Rattle.cell_drive.specs.Replies.{reported_lines}
use Rattle.cell_drive.proofs.requests.reply_accepting.Goals as goal

pub returns-clause-accepted : goal.returns-clause-accepted
returns-clause-accepted g c = ap Some c.report-report.ensures

pub returns-clause-answered : goal.returns-clause-answered
returns-clause-answered g c = (c.accept.result, c.accept.ensures.answered)

pub returns-clause-wrote : goal.returns-clause-wrote
returns-clause-wrote g c =
    let new = c.accept.new.self in
    subst (λ (late : Bool). WroteTo g.W.Sink c.put_acceptance-written.result c.args.writer.now c.put_acceptance-written.new.writer (reported_lines c.args.protocol c.args.prefix.now new c.args.acceptance.possible.report late c.args.acceptance.overdue)) c.is_late-late.ensures
    (subst (λ (r : Report). WroteTo g.W.Sink c.put_acceptance-written.result c.args.writer.now c.put_acceptance-written.new.writer (reported_lines c.args.protocol c.args.prefix.now new r c.is_late-late.result c.args.acceptance.overdue)) c.report-report.ensures
    c.put_acceptance-written.ensures.wrote)
