use Rattle.std.proofs.Common.{◌≡◌, ◌≤◌, length, vec_len, vec_capacity}
use Rattle.cell_control.specs.DueMoments.{AreDueMoments}
use Rattle.cell_drive.proofs.FollowedEvents.{HaveHappened}
use Rattle.cell_drive.proofs.lateness.follow_events.Given as goal

abbrev pub invariant-loop-entry : goal.invariant-loop-entry
invariant-loop-entry g l = record {
  happened : HaveHappened l.initial.cell.plan l.initial.cell.cell l.cell.cell l.entries l.entry-index l.late.items;
  plan : l.cell.plan ≡ l.initial.cell.plan;
  due_moments : AreDueMoments l.initial.cell.plan l.cell.cell (g.D.Dues.dues l.dues);
  len : vec_len l.late ≡ l.entry-index;
  capacity : length l.entries ≤ vec_capacity l.late;
}
