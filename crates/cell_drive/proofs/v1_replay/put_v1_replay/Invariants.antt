use Rattle.std.proofs.Common.{◌≡◌, length}
use Rattle.byte_streams.specs.Sinks.{AllBut}
use Rattle.cell_drive.specs.PlainLines.{plain_lines}
use Rattle.cell_drive.proofs.v1_replay.put_v1_replay.Given as goal

abbrev pub invariant-rests : goal.invariant-rests
invariant-rests g l = record {
  so_far : AllBut (g.W.Sink.written l.initial.writer) (g.W.Sink.written l.writer) (plain_lines l.entries l.late) (plain_lines l.rest l.rest_late);
  same : length l.rest ≡ length l.rest_late;
  unfailed : g.W.Sink.failed l.writer ≡ g.W.Sink.failed l.initial.writer;
}

abbrev pub decreases-rests : goal.decreases-rests
decreases-rests g l = length l.rest
