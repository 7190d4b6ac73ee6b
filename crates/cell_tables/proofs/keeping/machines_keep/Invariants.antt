use Rattle.std.proofs.Common.{ℕ, ◌<◌}
use Rattle.cell_tables.specs.Kept.{KeepsMachine}
use Rattle.cell_tables.proofs.keeping.machines_keep.Given as goal

-- the machines looked at keep the plan
abbrev pub invariant-loop-machine : goal.invariant-loop-machine
invariant-loop-machine g l = (i : ℕ) → i < l.machine → KeepsMachine l.cell.plan l.cell.cell l.shaped i
