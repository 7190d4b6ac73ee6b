use Rattle.std.proofs.Common.{◌≡◌, ◌+◌, ◌<◌, ◌≤◌, length}
use Rattle.std.specs.Io.KnownBytes.{Consumes}
use Rattle.text_lines.specs.declared.limits.TheConstants.{MAX_INPUT}
use Rattle.byte_streams.specs.declared.rooms.TheConstants.{MAX_PIECE}
use Rattle.command_run.proofs.input.read_pieces.Given as goal

abbrev pub invariant-reads : goal.invariant-reads
invariant-reads g l = record {
  was_read : Consumes (g.R.Source.left l.initial.input) (g.R.Source.left l.input) l.text.items;
  unfailed : g.R.Source.failed l.input ≡ g.R.Source.failed l.initial.input;
  count : length l.text.items + l.left ≡ MAX_INPUT;
  room : 0 < length l.room;
  piece : length l.room ≤ MAX_PIECE;
}

abbrev pub decreases-reads : goal.decreases-reads
decreases-reads g l = l.left
