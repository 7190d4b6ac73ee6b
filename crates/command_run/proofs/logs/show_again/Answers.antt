use Rattle.byte_streams.specs.Lent.{output_of}
use Rattle.command_run.proofs.KnownLogs.{never_shown}
use Rattle.command_run.proofs.logs.show_again.Goals as goal

pub returns-in-Err-flush : goal.returns-in-Err-flush
returns-in-Err-flush g c = record {
  is = never_shown c.args.protocol c.args.recovered c.in-Ok.run' (output_of g.W.Sink g.W.BufferedSink.pending c.args.output.now) (output_of g.W.Sink g.W.BufferedSink.pending c.replay_in.new.writer)
      (output_of g.W.Sink g.W.BufferedSink.pending c.flush.new.self) c.in-Ok.ensures.replayed c.in-Err-flush.ensures.written c.in-Err-flush.ensures.failed;
  same = tt;
  shown = tt;
}
