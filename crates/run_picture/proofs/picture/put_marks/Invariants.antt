use Rattle.std.proofs.Common.{◌≡◌, drop}
use Rattle.std.specs.List.{flat_map}
use Rattle.byte_streams.specs.Sinks.{AllBut}
use Rattle.run_picture.specs.PictureText.{mark_text, marks_text}
use Rattle.run_picture.proofs.picture.put_marks.Given as goal

abbrev pub invariant-loop-leaving : goal.invariant-loop-leaving
invariant-loop-leaving g l = record {
  so_far : AllBut (g.W.Sink.written l.initial.output) (g.W.Sink.written l.output) (marks_text l.last l.late)
      (flat_map (mark_text l.last) (drop l.leaving-index l.late));
  unfailed : g.W.Sink.failed l.output ≡ g.W.Sink.failed l.initial.output;
}
