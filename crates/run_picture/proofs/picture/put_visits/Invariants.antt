use Rattle.std.proofs.Common.{◌≡◌, drop}
use Rattle.std.specs.List.{flat_map}
use Rattle.byte_streams.specs.Sinks.{AllBut}
use Rattle.run_picture.specs.PictureText.{visit_text, visits_text}
use Rattle.run_picture.proofs.picture.put_visits.Given as goal

abbrev pub invariant-loop-visit : goal.invariant-loop-visit
invariant-loop-visit g l = record {
  so_far : AllBut (g.W.Sink.written l.initial.output) (g.W.Sink.written l.output) (visits_text l.names l.last l.late l.visits)
      (flat_map (visit_text l.names l.last l.late) (drop l.visit-index l.visits));
  unfailed : g.W.Sink.failed l.output ≡ g.W.Sink.failed l.initial.output;
}
