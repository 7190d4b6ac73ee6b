use Rattle.std.proofs.Common.{below_more}
use Rattle.cell_tables.proofs.keeping.machines_keep.Goals as goal

pub loop-machine-preserved : goal.loop-machine-preserved
loop-machine-preserved g c = below_more _ _ c.loop-machine.invariant (c.machine_keeps.ensures.0 c.if-not-machine_keeps.false)
