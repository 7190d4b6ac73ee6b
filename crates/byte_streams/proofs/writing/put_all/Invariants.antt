use Rattle.std.proofs.Common.{◌≡◌, length}
use Rattle.byte_streams.specs.Sinks.{AllBut}
use Rattle.byte_streams.proofs.writing.put_all.Given as goal

abbrev pub invariant-loop-rest : goal.invariant-loop-rest
invariant-loop-rest g l = record {
  so_far : AllBut (g.W.Sink.written l.initial.writer) (g.W.Sink.written l.writer) l.bytes l.rest;
  unfailed : g.W.Sink.failed l.writer ≡ g.W.Sink.failed l.initial.writer;
}

abbrev pub decreases-loop-rest : goal.decreases-loop-rest
decreases-loop-rest g l = length l.rest
