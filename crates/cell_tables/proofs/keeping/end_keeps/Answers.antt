use Rattle.std.proofs.Common.{rules}
use Rattle.cell_tables.proofs.keeping.end_keeps.Goals as goal

pub returns-then-count-job_state : goal.returns-then-count-job_state
returns-then-count-job_state g c = search rules
