use Rattle.std.proofs.Common.{◌≡◌, drop}
use Rattle.byte_streams.specs.Sinks.{AllBut}
use Rattle.event_lines.specs.EventLines.{entry_lines}
use Rattle.run_log.proofs.log_text.write_lines.Given as goal

abbrev pub invariant-loop-entry : goal.invariant-loop-entry
invariant-loop-entry g l = record {
  so_far : AllBut (g.W.Sink.written l.initial.writer) (g.W.Sink.written l.writer) (entry_lines l.entries) (entry_lines (drop l.entry-index l.entries));
  unfailed : g.W.Sink.failed l.writer ≡ g.W.Sink.failed l.initial.writer;
}
