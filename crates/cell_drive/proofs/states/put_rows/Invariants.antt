use Rattle.std.proofs.Common.{◌≡◌, ◌-◌}
use Rattle.byte_streams.specs.Sinks.{AllBut}
use Rattle.cell_drive.specs.{States.{standing_part, texts_from}, StateRows.{row, row_count, rows_text}}
use Rattle.cell_drive.proofs.states.put_rows.Given as goal

abbrev pub invariant-loop-number : goal.invariant-loop-number
invariant-loop-number g l = record {
  so_far : AllBut (g.W.Sink.written l.initial.writer) (g.W.Sink.written l.writer) (rows_text l.prefix l.cell.plan l.cell.cell l.rows)
      (texts_from (λ i. standing_part l.prefix (row l.cell.plan l.cell.cell l.rows i)) l.number (row_count l.cell.plan l.rows - l.number));
  unfailed : g.W.Sink.failed l.writer ≡ g.W.Sink.failed l.initial.writer;
}
