use Rattle.std.proofs.Common.{◌≡◌, ◌≤◌, length, drop}
use Rattle.shop_base.specs.Plan.{machines}
use Rattle.run_gantt.specs.DrawnVisits.{drawn_visits}
use Rattle.run_gantt.specs.VisitEnds.{AreVisitEnds}
use Rattle.run_gantt.specs.FirstMoments.{AreCleaningEnds}
use Rattle.run_gantt.proofs.drawn_log.drawn_visits.Given as goal

abbrev pub invariant-loop-place : goal.invariant-loop-place
invariant-loop-place l = record {
  within : l.place ≤ length l.entries;
  ends : AreVisitEnds l.ends.items (drop l.place l.entries);
  cleanings : AreCleaningEnds (machines l.shaped) l.cleanings.items (drop l.place l.entries);
  visits : l.visits.items ≡ drawn_visits l.shaped (drop l.place l.entries);
}

abbrev pub decreases-loop-place : goal.decreases-loop-place
decreases-loop-place l = l.place
