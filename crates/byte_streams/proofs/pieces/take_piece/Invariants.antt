use Rattle.std.proofs.Common.{◌+◌, ◌^◌, ◌<◌, length}
use Rattle.byte_streams.specs.Lent.{sink_state}
use Rattle.byte_streams.proofs.Taking.{Taking}
use Rattle.byte_streams.proofs.pieces.take_piece.Given as goal

abbrev pub invariant-loop-line : goal.invariant-loop-line
invariant-loop-line g l = record {
  so_far : Taking g.H.LineHandler.answers l.initial.handler l.initial.input.lines l.initial.input.held l.piece
      l.handler l.lines l.input.held l.rest
      (sink_state g.W.Sink l.initial.writer) (sink_state g.W.Sink l.writer);
  room : l.lines + length l.rest < 2 ^ 64;
}

abbrev pub decreases-loop-line : goal.decreases-loop-line
decreases-loop-line g l = length l.rest
