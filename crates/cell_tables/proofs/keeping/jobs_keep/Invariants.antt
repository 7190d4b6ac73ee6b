use Rattle.std.proofs.Common.{ℕ, ◌<◌}
use Rattle.cell_tables.specs.Kept.{KeepsJob}
use Rattle.cell_tables.proofs.keeping.jobs_keep.Given as goal

-- the jobs looked at keep the plan
abbrev pub invariant-loop-job : goal.invariant-loop-job
invariant-loop-job g l = (i : ℕ) → i < l.job → KeepsJob l.cell.plan l.cell.cell l.shaped i
