use Rattle.std.proofs.Common.{◌<◌}
use Rattle.cell_control.specs.Noted.{AreDueMomentsOf}
use Rattle.cell_control.proofs.due_moments.note_jobs.Given as goal

abbrev pub invariant-loop-job : goal.invariant-loop-job
invariant-loop-job g l = AreDueMomentsOf l.cell.plan l.cell.cell (g.D.Dues.dues l.dues) (λ j. j < l.job) (λ _. ⊥)
