use Rattle.cell_control.proofs.Sequences.{NoneMoves}
use Rattle.cell_control.proofs.dispatching.first_mover.Given as goal

-- none of the jobs looked at can move
abbrev pub invariant-loop-job : goal.invariant-loop-job
invariant-loop-job g l = NoneMoves l.cell.plan l.cell.cell l.job
