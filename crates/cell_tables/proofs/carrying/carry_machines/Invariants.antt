use Rattle.cell_tables.specs.CarriedRows.{AreCarriedMachines}
use Rattle.cell_tables.proofs.carrying.carry_machines.Given as goal

-- the rows of the machines so far
abbrev pub invariant-loop-machine : goal.invariant-loop-machine
invariant-loop-machine g l = AreCarriedMachines l.cell.cell l.shaped l.machine l.rows.items
