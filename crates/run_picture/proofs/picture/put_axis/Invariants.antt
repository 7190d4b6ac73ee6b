use Rattle.std.proofs.Common.{◌≡◌, drop}
use Rattle.std.specs.List.{flat_map}
use Rattle.byte_streams.specs.Sinks.{AllBut}
use Rattle.run_picture.specs.PictureText.{moment_text, axis_text}
use Rattle.run_picture.proofs.picture.put_axis.Given as goal

abbrev pub invariant-loop-number : goal.invariant-loop-number
invariant-loop-number g l = record {
  so_far : AllBut (g.W.Sink.written l.initial.output) (g.W.Sink.written l.output) (axis_text l.names l.machines l.last l.ticks)
      (flat_map (moment_text l.names l.machines l.last) (drop l.number l.ticks));
  unfailed : g.W.Sink.failed l.output ≡ g.W.Sink.failed l.initial.output;
}
