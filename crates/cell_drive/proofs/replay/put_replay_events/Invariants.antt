use Rattle.std.proofs.Common.{◌≡◌, drop}
use Rattle.byte_streams.specs.Sinks.{AllBut}
use Rattle.shop_base.specs.Run.{AreEvents}
use Rattle.cell_tables.specs.Events.{events_of}
use Rattle.cell_drive.specs.Replay.{replay_lines}
use Rattle.cell_drive.proofs.replay.put_replay_events.Given as goal

abbrev pub invariant-loop-place : goal.invariant-loop-place
invariant-loop-place g l = record {
  so_far : AllBut (g.W.Sink.written l.initial.writer) (g.W.Sink.written l.writer) (replay_lines l.initial.cell.plan l.protocol l.initial.cell.cell l.entries l.late)
      (replay_lines l.cell.plan l.protocol l.cell.cell (drop l.place l.entries) (drop l.place l.late));
  run : AreEvents l.cell.plan l.cell.cell (events_of (drop l.place l.entries));
  unfailed : g.W.Sink.failed l.writer ≡ g.W.Sink.failed l.initial.writer;
}
