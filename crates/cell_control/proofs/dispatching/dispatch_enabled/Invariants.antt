use Rattle.std.proofs.Common.{◌≡◌}
use Rattle.shop_base.specs.Movers.{ready_count}
use Rattle.cell_control.specs.Sequences.{IsSettling}
use Rattle.cell_control.proofs.dispatching.dispatch_enabled.Given as goal

abbrev pub invariant-loop-job : goal.invariant-loop-job
invariant-loop-job g l =
    IsSettling l.cell.plan l.initial.cell.cell l.at l.initial.orders.capacity l.cell.cell l.orders
    × (l.cell ≡ record l.initial.cell { cell = l.cell.cell })

abbrev pub decreases-loop-job : goal.decreases-loop-job
decreases-loop-job g l = ready_count l.cell.plan l.cell.cell
