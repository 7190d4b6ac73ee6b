use Rattle.std.proofs.Common.{◌≡◌, None, Some, refl, subst}
use Rattle.byte_streams.specs.Lent.{WroteOneTo}
use Rattle.cell_control.specs.Control.{Control}
use Rattle.cell_drive.specs.{Acceptances.IsToAccept, Replies.RepliesBy, Tickets.RepliesAt}
use Rattle.cell_drive.proofs.{LineAnswers.{of_texts, was_answered}, Replied.acceptance_replies, SeatedCells.one_content}
use Rattle.cell_drive.proofs.hub.reply_in.Goals as goal

pub accept-requires-clause-possible : goal.accept-requires-clause-possible
accept-requires-clause-possible g c = record {
  control = c.controller_of-controller.result.now;
  cell = c.controller_of-controller.ensures;
  possible = c.in-Ok.ensures.accepted.examined.1;
}

pub returns-in-Ok : goal.returns-in-Ok
returns-in-Ok g c =
    let protocol = c.args.protocol in
    let prefix = c.args.prefix.now in
    let old = c.args.hub.now in
    let new = c.accept.new.hub in
    let acceptance = c.in-Ok.acceptance in
    let done = c.accept.ensures in
    let ack = done.0.0 in
    let is = done.0.1 in
    let same : c.controller_of-controller.result.now ≡ is.before = one_content old c.args.ticket _ _ c.controller_of-controller.ensures is.cell in
    let to = subst (λ (v : Control). IsToAccept protocol v c.args.request acceptance) same c.in-Ok.ensures.accepted in
    subst (λ w. WroteOneTo g.W.Sink c.accept.result w c.accept.new.writer (RepliesAt protocol prefix old c.args.ticket c.args.number c.args.request new)) c.in-Ok.ensures.unwritten
    (was_answered _ _ _ _ _ (record {
      before = is.before;
      after = is.after;
      accepted = Some acceptance.possible.report;
      cell = is.cell;
      changed = (ack.late, is.answered);
      control = done.1;
      cells = is.cells;
      reply = acceptance_replies protocol prefix is.before is.after c.args.number c.args.request acceptance ack to is.answered;
    }) done.2 done.3)

pub returns-in-Err : goal.returns-in-Err
returns-in-Err g c =
    let v = c.controller_of-controller.result.now in
    of_texts (RepliesBy c.args.protocol c.args.prefix.now v c.args.number c.args.request None v) (RepliesAt c.args.protocol c.args.prefix.now c.args.hub.now c.args.ticket c.args.number c.args.request c.args.hub.now) _ _ _
    (λ text so. record {
      before = v;
      after = v;
      accepted = None;
      cell = c.controller_of-controller.ensures;
      changed = refl;
      control = c.shaped-plan.ensures.control;
      cells = record { changed = c.controller_of-controller.ensures; others = λ other differ. refl };
      reply = so;
    }) c.in-Err.ensures.answered
