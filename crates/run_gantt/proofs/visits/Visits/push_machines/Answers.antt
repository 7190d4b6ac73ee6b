use Rattle.run_gantt.specs.GanttText.{row_lines}
use Rattle.run_gantt.proofs.Lines.{one_more}
use Rattle.run_gantt.proofs.visits.Visits.push_machines.Goals as goal

pub loop-machine-preserved : goal.loop-machine-preserved
loop-machine-preserved c =
    one_more (row_lines c.args.names.now c.args.scale c.args.columns c.args.self.now) _ _ _ c.loop-machine.machine c.loop-machine.invariant c.in_ok-push_machine.ensures
