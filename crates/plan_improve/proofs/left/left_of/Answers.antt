use Rattle.plan_improve.proofs.{Common.{cleaning, job_rest}, Beginnings.one_more}
use Rattle.plan_improve.proofs.left.left_of.Goals as goal

pub loop-job-preserved : goal.loop-job-preserved
loop-job-preserved g c =
    one_more (job_rest c.args.rest.now.plan c.args.rest.now.cell c.args.rest.now.present) c.loop-job.job c.loop-job.jobs.items c.push.new.self.items c.job_rest.result
    c.loop-job.invariant c.in_ok-push.ensures.items (rw (c.cell-cell.ensures.plan, c.cell-cell.ensures.cell, c.present-present.ensures.present) at c.job_rest.ensures)

pub loop-machine-preserved : goal.loop-machine-preserved
loop-machine-preserved g c =
    one_more (cleaning c.args.rest.now.cell) c.loop-machine.machine c.loop-machine.cleanings.items c.push-in-loop-machine.new.self.items c.cleaned_since.result
    c.loop-machine.invariant c.in_ok-push-2.ensures.items (rw c.cell-cell.ensures.cell at c.cleaned_since.ensures.since)
