use Rattle.std.proofs.Common.{rules}
use Rattle.cell_tables.proofs.work_cell.WorkCell.next_order.Goals as goal

pub returns : goal.returns
returns g c = search rules
