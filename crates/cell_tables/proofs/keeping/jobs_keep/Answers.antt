use Rattle.std.proofs.Common.{below_more}
use Rattle.cell_tables.proofs.keeping.jobs_keep.Goals as goal

pub loop-job-preserved : goal.loop-job-preserved
loop-job-preserved g c = below_more _ _ c.loop-job.invariant (c.job_keeps.ensures.0 c.if-not-job_keeps.false)
