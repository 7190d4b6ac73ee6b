use Rattle.plan_bounds.specs.Bounds.{times_of}
use Rattle.plan_bounds.specs.Seen.{AreAllSeen}
use Rattle.plan_bounds.proofs.visits.all_visits.Given as goal

-- what is known of the jobs looked at
abbrev pub invariant-loop-job : goal.invariant-loop-job
invariant-loop-job l = AreAllSeen (times_of l.shaped) l.job 0 l.all
