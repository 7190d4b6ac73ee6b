use Rattle.std.proofs.{Common.arith, lemmas.Grind.common_steps}
use Rattle.cell_drive.proofs.session.note.Goals as goal

pub returns : goal.returns
returns c = grind (arith, common_steps)
