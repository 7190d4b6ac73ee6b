use Rattle.std.proofs.Common.{◌≡◌, ◌-◌}
use Rattle.std.specs.List.{flat_map, range_with_len}
use Rattle.byte_streams.specs.Sinks.{AllBut}
use Rattle.run_picture.specs.PictureText.{row_text, rows_text}
use Rattle.run_picture.proofs.picture.put_rows.Given as goal

abbrev pub invariant-loop-machine : goal.invariant-loop-machine
invariant-loop-machine g l = record {
  so_far : AllBut (g.W.Sink.written l.initial.output) (g.W.Sink.written l.output) (rows_text l.names l.machines)
      (flat_map (row_text l.names) (range_with_len l.machine (l.machines - l.machine)));
  unfailed : g.W.Sink.failed l.output ≡ g.W.Sink.failed l.initial.output;
}
