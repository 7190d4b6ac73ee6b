use Rattle.std.proofs.Common.{◌≡◌, replicate, vec_capacity}
use Rattle.cell_tables.specs.Tables.{no_row}
use Rattle.cell_tables.proofs.tables.start_machines.Given as goal

abbrev pub invariant-loop-i : goal.invariant-loop-i
invariant-loop-i l = (l.rows.items ≡ replicate l._i no_row) × (vec_capacity l.rows ≡ l.count)
