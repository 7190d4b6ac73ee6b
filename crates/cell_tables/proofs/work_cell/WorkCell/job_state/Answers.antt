use Rattle.std.proofs.Common.{◌<◌, length, arith, ap, sym, ◌∙◌}
use Rattle.std.proofs.lemmas.List.{get_or_read}
use Rattle.shop_base.specs.Plan.{jobs}
use Rattle.shop_base.specs.Cell.{absent, job_in}
use Rattle.cell_tables.proofs.Cells.{job-read}
use Rattle.cell_tables.proofs.work_cell.WorkCell.job_state.Goals as goal

pub returns : goal.returns
returns g c =
    let t = c.self.inside.tables in
    let within : c.args.job < length t.jobs.items = omega (arith, c.requires, c.self.invariant.tables.job_count, ap (λ v. jobs v.plan) c.self.view_is) in
    get_or_read t.jobs.items c.args.job c.index.result.now within c.index.ensures absent
    ∙ sym (job-read (g.P.Planned.planned c.self.inside.basis) t c.args.job) ∙ ap (λ v. job_in v.cell c.args.job) c.self.view_is
