use Rattle.std.proofs.Common.{◌+◌, sym, subst}
use Rattle.run_pruning.specs.Over.{DropsOver}
use Rattle.run_pruning.proofs.Walks.{drops_more}
use Rattle.run_pruning.proofs.finding.jobs_to_keep.Goals as goal

pub loop-job-preserved : goal.loop-job-preserved
loop-job-preserved g c =
    subst (λ marks. DropsOver c.args.cell.now.plan c.args.cell.now.cell c.in_ok-last.last (c.loop-job.job + 1) marks) (sym c.in_ok-note.ensures)
    (drops_more c.args.cell.now.plan c.args.cell.now.cell c.in_ok-last.last c.loop-job.job c.loop-job.kept c.is_over.result c.is_over.ensures c.loop-job.invariant)
