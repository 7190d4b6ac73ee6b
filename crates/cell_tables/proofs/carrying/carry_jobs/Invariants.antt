use Rattle.cell_tables.specs.CarriedRows.{AreCarriedJobs}
use Rattle.cell_tables.proofs.carrying.carry_jobs.Given as goal

-- the rows of the jobs so far
abbrev pub invariant-loop-job : goal.invariant-loop-job
invariant-loop-job g l = AreCarriedJobs l.cell.plan l.cell.cell l.job l.rows.items
