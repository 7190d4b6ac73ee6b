use Rattle.run_pruning.specs.Over.{DropsOver}
use Rattle.run_pruning.proofs.finding.jobs_to_keep.Given as goal

-- of the jobs so far those that are over don't stay
abbrev pub invariant-loop-job : goal.invariant-loop-job
invariant-loop-job g l = DropsOver l.cell.plan l.cell.cell l.last l.job l.kept
