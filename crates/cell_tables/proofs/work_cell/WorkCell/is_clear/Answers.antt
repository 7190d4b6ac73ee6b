use Rattle.std.proofs.Common.{rules}
use Rattle.cell_tables.proofs.work_cell.WorkCell.is_clear.Goals as goal

pub returns-in-Some : goal.returns-in-Some
returns-in-Some g c = search rules
