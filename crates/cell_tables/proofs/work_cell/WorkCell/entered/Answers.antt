use Rattle.std.proofs.Common.{◌<◌, length, arith, ap, sym, ◌∙◌}
use Rattle.std.proofs.lemmas.List.{get_or_read}
use Rattle.shop_base.specs.Plan.{machines}
use Rattle.shop_base.specs.Cell.{entries}
use Rattle.cell_tables.specs.declared.tables.MachineRow.{MachineRow}
use Rattle.cell_tables.specs.Tables.{no_row}
use Rattle.cell_tables.proofs.Cells.{entries-count, row-inside}
use Rattle.cell_tables.proofs.work_cell.WorkCell.entered.Goals as goal

pub returns-clause-count : goal.returns-clause-count
returns-clause-count g c =
    let p = g.P.Planned.planned c.self.inside.basis in
    let t = c.self.inside.tables in
    let inside : c.args.machine < machines p = omega (arith, c.requires, ap (λ v. machines v.plan) c.self.view_is) in
    ap (λ (row : MachineRow). row.entered) (get_or_read t.machines.items c.args.machine c.index.result.now (row-inside p t c.args.machine c.self.invariant.tables inside) c.index.ensures no_row)
    ∙ sym (entries-count p t c.args.machine c.self.invariant.tables inside) ∙ ap (λ v. length (entries v.cell c.args.machine)) c.self.view_is
