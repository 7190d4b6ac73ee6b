use Rattle.std.proofs.Common.{◌≡◌}
use Rattle.alt_graph.specs.Times.{earliest_of}
use Rattle.plan_schedule.specs.DrawnVisits.{leavings_by}
use Rattle.plan_schedule.proofs.picture_visits.leavings_by.Given as goal

abbrev pub invariant-loop-job : goal.invariant-loop-job
invariant-loop-job g l = l.leavings.items ≡ leavings_by l.rest.plan (earliest_of l.times) l.job
