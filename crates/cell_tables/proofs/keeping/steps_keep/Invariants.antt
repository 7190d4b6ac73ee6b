use Rattle.std.proofs.Common.{ℕ, ◌<◌}
use Rattle.shop_base.specs.Plan.{steps, machine_of, Visits}
use Rattle.cell_tables.proofs.keeping.steps_keep.Given as goal

-- the steps looked at are on the same machines
abbrev pub invariant-loop-place : goal.invariant-loop-place
invariant-loop-place g l = (k : ℕ) → k < l.place → k < steps l.cell.plan l.job → Visits l.shaped l.job k (machine_of l.cell.plan l.job k)
