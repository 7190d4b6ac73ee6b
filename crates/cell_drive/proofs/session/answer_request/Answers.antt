use Rattle.std.proofs.Common.{[]}
use Rattle.byte_streams.specs.Lent.{sink_state}
use Rattle.cell_drive.specs.{Replies.RepliesBy, Session.AnswersRequest}
use Rattle.cell_drive.proofs.{LineAnswers.of_texts, Replied.{accepted_kept, accepted_room}, Sessions.replied}
use Rattle.cell_drive.proofs.session.answer_request.Goals as goal

pub note_accepted-requires : goal.note_accepted-requires
note_accepted-requires g c = accepted_room c.args.controller.now c.args.log.now c.requires c.reply_to-reply.result.accepted c.reply_to-reply.new.controller c.reply_to-reply.ensures.accepted

pub returns-clause-kept : goal.returns-clause-kept
returns-clause-kept g c =
    accepted_kept c.args.controller.now c.args.log.now c.requires c.reply_to-reply.result.accepted c.reply_to-reply.new.controller c.note_accepted.new.log c.reply_to-reply.ensures.accepted c.note_accepted.ensures c.reply_to-reply.ensures.control

pub returns-clause-answered : goal.returns-clause-answered
returns-clause-answered g c =
    let v = c.args.controller.now in
    let log = c.args.log.now in
    let reply = c.reply_to-reply.result in
    let new = c.reply_to-reply.new.controller in
    let longer = c.note_accepted.new.log in
    of_texts (RepliesBy c.args.protocol [] v c.args.number c.args.request reply.accepted new) (AnswersRequest c.args.protocol v log c.args.number c.args.request new longer)
    reply.written (sink_state g.W.Sink c.args.writer.now) (sink_state g.W.Sink c.reply_to-reply.new.writer)
    (λ text so line some asks. replied c.args.protocol v new log longer c.args.number line text c.args.request reply.accepted some asks c.reply_to-reply.ensures.accepted c.note_accepted.ensures so) c.reply_to-reply.ensures.answered
