use Rattle.std.proofs.Common.{replicate, false, ap, ◌∙◌, refl}
use Rattle.shop_base.specs.declared.job_state.JobState.{JobState}
use Rattle.cell_tables.specs.Tables.{no_row}
use Rattle.cell_tables.proofs.Writes.{start_cell, start_are_tables}
use Rattle.cell_tables.proofs.tables.Tables.start.Goals as goal

pub returns-clause-tables : goal.returns-clause-tables
returns-clause-tables c =
    start_are_tables c.args.shaped.now _ c.job_count.ensures.well_shaped
    (c.in_ok-jobs.ensures.rows ∙ ap (λ n. replicate {A = JobState} n (record { made = 0; ready = false; since = 0 })) c.job_count.ensures.count)
    (c.in_ok-machines.ensures.rows ∙ ap (λ n. replicate n no_row) c.machine_count.ensures.count) refl

pub returns-clause-start : goal.returns-clause-start
returns-clause-start c =
    start_cell c.args.shaped.now _
    (c.in_ok-jobs.ensures.rows ∙ ap (λ n. replicate {A = JobState} n (record { made = 0; ready = false; since = 0 })) c.job_count.ensures.count)
    (c.in_ok-machines.ensures.rows ∙ ap (λ n. replicate n no_row) c.machine_count.ensures.count) refl
