use Rattle.std.proofs.Common.{rules}
use Rattle.cell_tables.proofs.work_cell.WorkCell.job_standing.Goals as goal

pub returns : goal.returns
returns g c = search rules
