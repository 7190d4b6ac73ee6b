use Rattle.std.proofs.Common.{sym, append-nil}
use Rattle.run_state.specs.StateText.{machine_line}
use Rattle.run_state.proofs.Lines.{one_more}
use Rattle.run_state.proofs.rest_state.push_machines.Goals as goal

pub loop-machine-init : goal.loop-machine-init
loop-machine-init g c = sym (append-nil _)

pub loop-machine-preserved : goal.loop-machine-preserved
loop-machine-preserved g c =
    let v = c.args.cell.now in one_more (machine_line c.args.names.now v.plan v.cell c.args.at) _ _ _ c.loop-machine.machine c.loop-machine.invariant c.in_ok-push_machine.ensures
