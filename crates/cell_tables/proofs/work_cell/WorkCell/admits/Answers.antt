use Rattle.std.proofs.Common.{rules}
use Rattle.shop_base.proofs.Keeping.{next-stands}
use Rattle.cell_tables.proofs.work_cell.WorkCell.admits.Goals as goal

pub returns-then-is_clear : goal.returns-then-is_clear
returns-then-is_clear g c = search (rules, next-stands)
