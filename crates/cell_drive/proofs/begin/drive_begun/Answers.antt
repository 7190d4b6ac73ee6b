use Rattle.std.proofs.Common.{◌≡◌, arith, vec_len, sym, subst}
use Rattle.byte_streams.specs.{Lent.{Streams, streams_of}, Answering.AnswerAll, Lines.input_lines}
use Rattle.cell_control.specs.Control.{verified_in}
use Rattle.cell_drive.specs.declared.begin.DriveEnd.{DriveEnd}
use Rattle.cell_drive.specs.Session.{SessionState, SessionAnswer, SessionCloses, session_start}
use Rattle.cell_drive.proofs.{Sessions.end_of, StreamedFrom.{streamed_to_end, streamed_to_fault}}
use Rattle.cell_drive.proofs.begin.drive_begun.Goals as goal

pub returns-in-Ok-clause-driven : goal.returns-in-Ok-clause-driven
returns-in-Ok-clause-driven g c =
    let s : SessionState = c.begun.inside.session in
    let v = verified_in s.control in
    let first = session_start s.protocol v in
    let undriven : s ≡ first = c.begun.invariant.0 in
    let end : SessionState = c.stream.new.handler in
    let before : Streams = streams_of g.R.Source g.W.Sink g.W.BufferedSink.pending c.args.reader.now c.args.writer.now in
    let after : Streams = streams_of g.R.Source g.W.Sink g.W.BufferedSink.pending c.stream.new.reader c.stream.new.writer in
    let lines = input_lines c.in-Ok.ensures.input in
    let text = c.in-Ok.ensures.comes_to.text in
    let all : AnswerAll SessionAnswer first 1 lines text end = subst (λ (x : SessionState). AnswerAll SessionAnswer x 1 lines text end) undriven c.in-Ok.ensures.comes_to.are_answers in
    rw (sym c.begun.view_is) (record {
      end = end;
      streamed = streamed_to_end SessionAnswer SessionCloses s end before after _ c.end.result first undriven c.in-Ok.ensures;
      came_to = end_of v s.protocol end lines text c.end.result c.end.ensures.kept all c.end.ensures.log c.end.ensures.plan c.end.ensures.verified c.end.ensures.done c.end.ensures.last c.end.ensures.left;
    })

pub returns-clause-driven : goal.returns-clause-driven
returns-clause-driven g c =
    let size : vec_len c.begun.inside.room ≡ 65536 = c.begun.invariant.1 in
    let s : SessionState = c.begun.inside.session in
    rw (sym c.begun.view_is) (record {
      end = c.stream.new.handler;
      streamed = streamed_to_fault SessionAnswer SessionCloses s c.stream.new.handler
          (streams_of g.R.Source g.W.Sink g.W.BufferedSink.pending c.args.reader.now c.args.writer.now) (streams_of g.R.Source g.W.Sink g.W.BufferedSink.pending c.stream.new.reader c.stream.new.writer) DriveEnd c.in-Err.fault
          (session_start s.protocol (verified_in s.control)) c.begun.invariant.0 (omega (arith, size, c.deref_mut.ensures.len)) c.in-Err.ensures;
      came_to = tt;
    })
