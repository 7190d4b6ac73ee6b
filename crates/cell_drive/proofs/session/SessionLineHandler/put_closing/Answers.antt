use Rattle.std.proofs.Common.{subst}
use Rattle.byte_streams.specs.Lent.{WroteOneTo}
use Rattle.cell_drive.specs.{Session.{SessionState, SessionCloses}, LineAnswers.closing_line}
use Rattle.cell_drive.proofs.Sessions.{closes}
use Rattle.cell_drive.proofs.session.SessionLineHandler.put_closing.Goals as goal

pub returns : goal.returns
returns g c =
    let s = c.self.inside in
    subst (λ (s : SessionState). WroteOneTo g.W.Sink c.put_closing.result c.args.writer.now c.put_closing.new.writer (SessionCloses s)) c.self.view_is
    (record {
      text = closing_line s.controller.planned s.controller.cell;
      is_text = closes s.controller s.log s.protocol c.self.invariant;
      wrote = c.put_closing.ensures.wrote;
      unfailed = c.put_closing.ensures.unfailed;
    })
