use Rattle.std.proofs.Common.{sym}
use Rattle.cell_drive.proofs.SeatedCells.{not_none}
use Rattle.cell_drive.proofs.hub.controller_of.Goals as goal

pub unreachable-requires : goal.unreachable-requires
unreachable-requires g c = not_none c.args.hub.now c.args.ticket c.requires.0 c.requires.1 c.in-None.ensures.cell

pub returns : goal.returns
returns g c = sym c.in-Some.ensures.cell
