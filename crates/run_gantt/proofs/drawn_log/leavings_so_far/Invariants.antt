use Rattle.std.proofs.Common.{◌≤◌, length, drop}
use Rattle.shop_base.specs.Plan.{jobs}
use Rattle.run_gantt.specs.FirstMoments.{AreLeavingsAhead}
use Rattle.run_gantt.proofs.drawn_log.leavings_so_far.Given as goal

abbrev pub invariant-loop-place : goal.invariant-loop-place
invariant-loop-place l = record {
  within : l.place ≤ length l.entries;
  leavings : AreLeavingsAhead (jobs l.shaped) l.leavings.items (drop l.place l.entries);
}

abbrev pub decreases-loop-place : goal.decreases-loop-place
decreases-loop-place l = l.place
