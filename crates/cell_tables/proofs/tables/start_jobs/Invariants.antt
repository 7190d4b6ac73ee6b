use Rattle.std.proofs.Common.{◌≡◌, replicate, false, vec_capacity}
use Rattle.shop_base.specs.declared.job_state.JobState.{JobState}
use Rattle.cell_tables.proofs.tables.start_jobs.Given as goal

abbrev pub invariant-loop-i : goal.invariant-loop-i
invariant-loop-i l = (l.rows.items ≡ replicate {A = JobState} l._i (record { made = 0; ready = false; since = 0 })) × (vec_capacity l.rows ≡ l.count)
