use Rattle.std.proofs.Common.{ℕ, ◌<◌}
use Rattle.cell_tables.specs.Readings.{IsCleanedAfter}
use Rattle.run_pruning.proofs.finding.is_cleaned_after.Given as goal

-- none of the machines so far is being cleaned after the job
abbrev pub invariant-loop-machine : goal.invariant-loop-machine
invariant-loop-machine g l = (m : ℕ) → m < l.machine → IsCleanedAfter l.cell.plan l.cell.cell m l.job → ⊥
