use Rattle.std.proofs.Common.{sym, ◌∙◌, ap}
use Rattle.cell_tables.proofs.Cells.{last-read}
use Rattle.cell_tables.proofs.work_cell.WorkCell.last.Goals as goal

pub returns : goal.returns
returns g c = sym (last-read (g.P.Planned.planned c.self.inside.basis) c.self.inside.tables) ∙ ap (λ v. v.cell.last) c.self.view_is
