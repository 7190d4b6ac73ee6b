use Rattle.std.proofs.Common.{rules}
use Rattle.run_gantt.proofs.first_moments.note_leaving.Goals as goal

pub returns-then-place-len : goal.returns-then-place-len
returns-then-place-len c = search rules
