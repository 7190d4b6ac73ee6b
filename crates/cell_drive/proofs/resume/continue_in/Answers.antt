use Rattle.std.proofs.Common.{sym, subst, inl, inr, refl}
use Rattle.std.specs.Io.KnownBytes.{Appends}
use Rattle.byte_streams.specs.Lent.{output_of}
use Rattle.cell_drive.specs.{Recovered.Recovered, Resuming.due_text}
use Rattle.cell_drive.proofs.resume.continue_in.Goals as goal

pub returns : goal.returns
returns g c =
    let on = c.drive_on.ensures in
    rw (sym c.run.view_is) (inr (record {
      from = c.run.invariant.0;
      middle = output_of g.W.Sink g.W.BufferedSink.pending c.put_due.new.writer;
      again = subst (λ (t : Recovered). Appends (g.W.Sink.written c.args.writer.now) (g.W.Sink.written c.put_due.new.writer) (due_text t)) (sym c.run.view_is) c.in-Ok.ensures.wrote;
      unfailed = c.in-Ok.ensures.unfailed;
      end = on.0;
      streamed = on.1;
      came_to = on.2;
    }))

pub returns-in_default : goal.returns-in_default
returns-in_default g c = inl (refl, c.in_default.ensures.wrote.0, refl, c.in_default.ensures.wrote.1)
