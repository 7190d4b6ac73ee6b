use Rattle.std.proofs.{Common.arith, lemmas.Grind.common_steps}
use Rattle.cell_tables.proofs.carrying.carry_machines.Goals as goal

pub loop-machine-preserved : goal.loop-machine-preserved
loop-machine-preserved g c = grind (arith, common_steps)
