use Rattle.std.proofs.Common.{◌<◌}
use Rattle.cell_control.specs.Noted.{AreDueMomentsOf}
use Rattle.cell_control.proofs.due_moments.note_machines.Given as goal

abbrev pub invariant-loop-machine : goal.invariant-loop-machine
invariant-loop-machine g l = AreDueMomentsOf l.cell.plan l.cell.cell (g.D.Dues.dues l.dues) (λ _. Unit {0}) (λ m. m < l.machine)
