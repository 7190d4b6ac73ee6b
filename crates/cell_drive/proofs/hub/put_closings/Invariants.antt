use Rattle.std.proofs.Common.{◌≡◌, drop}
use Rattle.byte_streams.specs.Sinks.{AllBut}
use Rattle.cell_drive.specs.{Numbers.closing_text, Tickets.cells_of}
use Rattle.cell_drive.proofs.hub.put_closings.Given as goal

abbrev pub invariant-loop-cell : goal.invariant-loop-cell
invariant-loop-cell g l = record {
  so_far : AllBut (g.W.Sink.written l.initial.writer) (g.W.Sink.written l.writer) (closing_text 0 (cells_of l.hub l.tickets))
      (closing_text l.cell (drop l.cell (cells_of l.hub l.tickets)));
  unfailed : g.W.Sink.failed l.writer ≡ g.W.Sink.failed l.initial.writer;
}
