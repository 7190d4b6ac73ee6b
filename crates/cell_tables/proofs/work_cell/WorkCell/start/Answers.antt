use Rattle.std.proofs.Common.{subst}
use Rattle.cell_tables.specs.Tables.{AreSound}
use Rattle.cell_tables.proofs.Values.{start-are_sound}
use Rattle.cell_tables.proofs.work_cell.WorkCell.start.Goals as goal

pub invariant_of-result : goal.invariant_of-result
invariant_of-result g c =
    subst (λ p. AreSound p c.in-Ok.tables) c.shaped.ensures (start-are_sound c.shaped.result.now c.in-Ok.tables c.in-Ok.ensures.tables c.in-Ok.ensures.start)
