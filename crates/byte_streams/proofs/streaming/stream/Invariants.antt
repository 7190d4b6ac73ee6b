use Rattle.std.proofs.Common.{◌<◌, length}
use Rattle.byte_streams.specs.Lent.{streams_of}
use Rattle.byte_streams.specs.Reading.{reached}
use Rattle.byte_streams.proofs.Drains.{Draining}
use Rattle.byte_streams.proofs.streaming.stream.Given as goal

abbrev pub invariant-reads : goal.invariant-reads
invariant-reads g l = record {
  so_far : Draining g.H.LineHandler.answers l.initial.handler (reached l.handler l.input) l.left
      (streams_of g.R.Source g.W.Sink g.W.BufferedSink.pending l.initial.reader l.initial.writer) (streams_of g.R.Source g.W.Sink g.W.BufferedSink.pending l.reader l.writer);
  room : 0 < length l.room;
}

abbrev pub decreases-reads : goal.decreases-reads
decreases-reads g l = l.left
