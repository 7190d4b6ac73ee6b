use Rattle.std.proofs.Common.{sym, append-nil}
use Rattle.run_state.specs.StateText.{job_line}
use Rattle.run_state.proofs.Lines.{one_more}
use Rattle.run_state.proofs.rest_state.push_jobs.Goals as goal

pub loop-job-init : goal.loop-job-init
loop-job-init g c = sym (append-nil _)

pub loop-job-preserved : goal.loop-job-preserved
loop-job-preserved g c =
    let v = c.args.cell.now in one_more (job_line c.args.names.now v.plan v.cell c.args.at) _ _ _ c.loop-job.job c.loop-job.invariant c.in_ok-push_job.ensures
