use Rattle.plan_bounds.specs.Bounds.{times_of}
use Rattle.plan_bounds.specs.Greatest.{IsGreatestOfJobs}
use Rattle.plan_bounds.proofs.makespan.greatest_job.Given as goal

-- the greatest of the bounds of the jobs looked at
abbrev pub invariant-loop-job : goal.invariant-loop-job
invariant-loop-job l = IsGreatestOfJobs (times_of l.shaped) l.job (l.first, l.most)
