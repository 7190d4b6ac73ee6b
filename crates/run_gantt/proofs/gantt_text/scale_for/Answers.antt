use Rattle.std.proofs.Common.{rules}
use Rattle.run_gantt.proofs.gantt_text.scale_for.Goals as goal

pub returns-clause-scale : goal.returns-clause-scale
returns-clause-scale c = search rules depth 2

pub returns-clause-below : goal.returns-clause-below
returns-clause-below c = search rules depth 2
