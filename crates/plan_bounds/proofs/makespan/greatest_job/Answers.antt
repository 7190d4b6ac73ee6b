use Rattle.plan_bounds.proofs.makespan.greatest_job.Goals as goal

pub job_bound-most-requires : goal.job_bound-most-requires
job_bound-most-requires c = c.job_count-jobs.ensures.well_shaped.shop.counts.some_job
