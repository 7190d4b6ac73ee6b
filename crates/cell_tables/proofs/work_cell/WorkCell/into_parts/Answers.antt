use Rattle.std.proofs.Common.{rules}
use Rattle.cell_tables.proofs.work_cell.WorkCell.into_parts.Goals as goal

pub returns-clause-cell : goal.returns-clause-cell
returns-clause-cell g c = search rules
