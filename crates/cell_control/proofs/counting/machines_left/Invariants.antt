use Rattle.std.proofs.Common.{◌≡◌, ◌*◌, ◌≤◌}
use Rattle.shop_base.specs.{Ends.sum_below, ReportsLeft.cleanings_left}
use Rattle.cell_control.proofs.counting.machines_left.Given as goal

-- those of the machines looked at
abbrev pub invariant-loop-machine : goal.invariant-loop-machine
invariant-loop-machine g l = (l.left ≡ sum_below (cleanings_left l.cell.plan l.cell.cell) l.machine) × (l.left ≤ 20001 * l.machine)
