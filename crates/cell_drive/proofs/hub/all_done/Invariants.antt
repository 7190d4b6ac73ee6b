use Rattle.std.proofs.Common.{drop}
use Rattle.std.specs.Prelude.{◌↔◌}
use Rattle.cell_drive.specs.{ManyCells.AreAllDone, Tickets.cells_of}
use Rattle.cell_drive.proofs.hub.all_done.Given as goal

abbrev pub invariant-loop-cell : goal.invariant-loop-cell
invariant-loop-cell g l = AreAllDone (cells_of l.hub l.tickets) ↔ AreAllDone (drop l.cell (cells_of l.hub l.tickets))
