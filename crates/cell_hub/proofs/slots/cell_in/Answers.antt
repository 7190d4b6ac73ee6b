use Rattle.std.proofs.Common.{sym}
use Rattle.cell_hub.proofs.Hubs.{stands_there, another_there, none_there}
use Rattle.cell_hub.proofs.slots.cell_in.Goals as goal
use Rattle.cell_hub.proofs.slots.cell_in.Goals.{in_default-via-in-Some+else-placed-ticket, in_default-via-in_default}

pub returns-in-Some : goal.returns-in-Some
returns-in-Some g c next = sym (stands_there c.args.cells.now c.args.ticket c.in-Some.placed.now c.in-Some.ensures c.if-placed-ticket.true next)

pub returns-in_default : goal.returns-in_default
returns-in_default g c next =
    elim c.in_default.branch [
      | in_default-via-in-Some+else-placed-ticket w ↦ sym (another_there c.args.cells.now c.args.ticket w.in-Some.placed.now w.in-Some.ensures w.if-placed-ticket.false next)
      | in_default-via-in_default w ↦ sym (none_there c.args.cells.now c.args.ticket w.in_default.ensures next)
    ]
