use Rattle.std.proofs.Common.{◌≡◌, ◌+◌, ◌*◌, ◌≤◌, length, drop}
use Rattle.cell_drive.specs.{declared.v1_replay.TheConstants.{EVENT_ROOM, LINES_ROOM}, PlainLines.plain_lines}
use Rattle.cell_drive.proofs.v1_replay.put_few.Given as goal

abbrev pub invariant-places : goal.invariant-places
invariant-places g l = record {
  written : l.lines ≡ plain_lines (drop l.place l.entries) (drop l.place l.late);
  within : l.place ≤ length l.entries;
  room : length l.lines + EVENT_ROOM * l.place ≤ LINES_ROOM;
}

abbrev pub decreases-places : goal.decreases-places
decreases-places g l = l.place
