use Rattle.plan_revise.proofs.Written.{none_at_work, one_at_work}
use Rattle.plan_revise.proofs.run_so_far.RunSoFar.worker.Goals as goal

pub returns-then-job_state-clause-worker : goal.returns-then-job_state-clause-worker
returns-then-job_state-clause-worker g c =
    let here = rw (c.cell-cell.ensures.plan, c.cell-cell.ensures.cell) at c.in_ok-job.ensures in
    let state = rw c.cell-cell.ensures.cell at c.job_state.ensures in
    none_at_work _ _ c.args.machine c.in_ok-job.job c.job_state.result c.self.view_is c.self.invariant here state c.if-job_state.true

pub returns-else-job_state-clause-worker : goal.returns-else-job_state-clause-worker
returns-else-job_state-clause-worker g c =
    let here = rw (c.cell-cell.ensures.plan, c.cell-cell.ensures.cell) at c.in_ok-job.ensures in
    let state = rw c.cell-cell.ensures.cell at c.job_state.ensures in
    one_at_work _ _ c.args.machine c.in_ok-job.job c.job_state.result c.self.view_is here state c.if-job_state.false
