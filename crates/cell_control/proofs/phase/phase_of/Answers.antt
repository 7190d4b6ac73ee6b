use Rattle.std.proofs.Common.{rules}
use Rattle.cell_control.proofs.phase.phase_of.Goals as goal

pub returns-in-None-2 : goal.returns-in-None-2
returns-in-None-2 g c = search rules
