use Rattle.cell_tables.proofs.keeping.keeps_so_far.Goals as goal

pub returns-then-jobs_keep : goal.returns-then-jobs_keep
returns-then-jobs_keep g c = (
  (λ all. record { jobs_keep = c.jobs_keep.ensures.0 c.if-jobs_keep.true; machines_keep = c.machines_keep.ensures.0 all }),
  λ keeps. c.machines_keep.ensures.1 keeps.machines_keep,
)
