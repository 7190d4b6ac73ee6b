use Rattle.std.proofs.Common.{◌<◌, arith, ap, sym, ◌∙◌}
use Rattle.std.proofs.lemmas.List.{get_or_read}
use Rattle.shop_base.specs.Plan.{machines}
use Rattle.shop_base.specs.Cell.{cleaning}
use Rattle.cell_tables.specs.declared.tables.MachineRow.{MachineRow}
use Rattle.cell_tables.specs.Tables.{no_row}
use Rattle.cell_tables.proofs.Cells.{cleaning-read, row-inside, some-within}
use Rattle.cell_tables.proofs.work_cell.WorkCell.cleaned_since.Goals as goal

pub returns-clause-since : goal.returns-clause-since
returns-clause-since g c =
    let p = g.P.Planned.planned c.self.inside.basis in
    let t = c.self.inside.tables in
    let inside : c.args.machine < machines p = omega (arith, c.requires, ap (λ v. machines v.plan) c.self.view_is) in
    ap (λ (row : MachineRow). row.cleaning) (get_or_read t.machines.items c.args.machine c.index.result.now (row-inside p t c.args.machine c.self.invariant.tables inside) c.index.ensures no_row)
    ∙ sym (cleaning-read p t c.args.machine c.self.invariant.tables inside) ∙ ap (λ v. cleaning v.cell c.args.machine) c.self.view_is

pub returns-clause-in_range : goal.returns-clause-in_range
returns-clause-in_range g c =
    some-within c.index.result.now.cleaning λ s is.
    c.self.invariant.tables.cleaning_in_range c.args.machine s (ap (λ v. cleaning v.cell c.args.machine) c.self.view_is ∙ sym (returns-clause-since g c) ∙ is)
