use Rattle.std.proofs.Common.{rules}
use Rattle.run_gantt.proofs.gantt_text.gantt.Goals as goal

pub returns : goal.returns
returns c = search rules
