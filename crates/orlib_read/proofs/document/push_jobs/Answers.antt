use Rattle.std.proofs.Common.{◌++◌, arith}
use Rattle.orlib_read.specs.Lines.{job_lines}
use Rattle.orlib_read.proofs.Documents.{jobs_more}
use Rattle.orlib_read.proofs.document.push_jobs.Goals as goal

pub loop-job-preserved : goal.loop-job-preserved
loop-job-preserved c =
    let more = jobs_more c.loop-job.text.items (c.args.text.now.items ++ job_lines c.args.shop.now.routes) c.args.shop.now.routes c.loop-job.job (omega arith) c.loop-job.invariant in
    cc (c.in_ok-push_job.ensures, c.route_of-route.ensures)
