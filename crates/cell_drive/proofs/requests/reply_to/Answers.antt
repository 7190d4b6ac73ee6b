use Rattle.std.proofs.Common.{Option, Some, sym, subst}
use Rattle.shop_base.specs.declared.report.Report.{Report}
use Rattle.byte_streams.specs.Lent.{WroteOneTo}
use Rattle.cell_drive.specs.{Replies.{HasAccepted, RepliesBy}}
use Rattle.cell_drive.proofs.{LineAnswers.was_answered, Replied.acceptance_replies}
use Rattle.cell_drive.proofs.requests.reply_to.Goals as goal

pub reply_accepting-requires-clause-possible : goal.reply_accepting-requires-clause-possible
reply_accepting-requires-clause-possible g c = c.in-Ok.ensures.accepted.examined.1

pub returns-in-Ok-clause-accepted : goal.returns-in-Ok-clause-accepted
returns-in-Ok-clause-accepted g c =
    let answered = c.reply_accepting.ensures.answered in
    subst (λ (o : Option Report). HasAccepted c.args.controller.now o c.reply_accepting.new.controller) (sym c.reply_accepting.ensures.accepted) (answered.0.late, answered.1)

pub returns-in-Ok-clause-answered : goal.returns-in-Ok-clause-answered
returns-in-Ok-clause-answered g c =
    let v = c.args.controller.now in
    let new = c.reply_accepting.new.controller in
    let acceptance = c.in-Ok.acceptance in
    let answered = c.reply_accepting.ensures.answered in
    subst (λ (o : Option Report). WroteOneTo g.W.Sink c.reply_accepting.result.written c.args.writer.now c.reply_accepting.new.writer (RepliesBy c.args.protocol c.args.prefix.now v c.args.number c.args.request o new)) (sym c.reply_accepting.ensures.accepted)
    (subst (λ w. WroteOneTo g.W.Sink c.reply_accepting.result.written w c.reply_accepting.new.writer (RepliesBy c.args.protocol c.args.prefix.now v c.args.number c.args.request (Some acceptance.possible.report) new)) c.in-Ok.ensures.unwritten
    (was_answered _ _ _ _ _ (acceptance_replies c.args.protocol c.args.prefix.now v new c.args.number c.args.request acceptance answered.0 c.in-Ok.ensures.accepted answered.1) c.reply_accepting.ensures.wrote c.reply_accepting.ensures.unfailed))
