use Rattle.std.proofs.Common.{arith}
use Rattle.plan_bounds.proofs.makespan.least_makespan.Goals as goal

pub returns-else-job_at_least-at_least : goal.returns-else-job_at_least-at_least
returns-else-job_at_least-at_least c =
    let job = c.greatest_job-job.ensures in
    let machine = c.in-Some.ensures in (
      record { in_range = job.in_range; bound = job.bound; before = job.before; within = job.within },
      λ i b less is. omega (arith, machine.within i b less is, c.if-job_at_least-at_least.false),
    )

pub returns-in_default : goal.returns-in_default
returns-in_default c =
    let job = c.greatest_job-job.ensures in (
      record { in_range = job.in_range; bound = job.bound; before = job.before; within = job.within },
      λ i b less is. absurd (c.in_default.ensures i b less is),
    )
