use Rattle.std.proofs.Common.{rules}
use Rattle.cell_tables.proofs.work_cell.WorkCell.job_due.Goals as goal

pub returns-then-state-eq0-clause-due : goal.returns-then-state-eq0-clause-due
returns-then-state-eq0-clause-due g c = search rules
