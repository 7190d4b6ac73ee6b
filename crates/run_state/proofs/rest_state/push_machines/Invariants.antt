use Rattle.std.proofs.Common.{◌≡◌, ◌++◌}
use Rattle.run_state.specs.StateText.{machine_lines}
use Rattle.run_state.proofs.rest_state.push_machines.Given as goal

-- the lines of the machines so far
abbrev pub invariant-loop-machine : goal.invariant-loop-machine
invariant-loop-machine g l = l.text.items ≡ l.initial.text.items ++ machine_lines l.names l.cell.plan l.cell.cell l.at l.machine
