use Rattle.std.proofs.Common.{subst}
use Rattle.cell_hub.specs.{Hub.AreSerialsBelow, Slots.hub_of, Calls.{Dismissed, IsCall}}
use Rattle.cell_hub.proofs.{Lives.call_serials, Called.{dismissal_called, dismissal_finds, dismissal_takes}}
use Rattle.cell_hub.proofs.hub.HubOf.dismiss.Goals as goal

called : (g : _) (c : goal.After-take_from g) → IsCall c.args.self.now (Dismissed c.args.ticket c.take_from.result) (hub_of c.take_from.new.cells c.self.inside.next_serial)
called g c =
    dismissal_called c.self.inside.cells c.take_from.new.cells c.self.inside.next_serial c.args.self.now c.self.view_is c.args.ticket c.take_from.result
    c.take_from.ensures.dismissed c.take_from.ensures.none c.take_from.ensures.fault c.take_from.ensures.unchanged

pub invariant_of-self : goal.invariant_of-self
invariant_of-self g c = call_serials c.args.self.now _ (Dismissed c.args.ticket c.take_from.result) (called g c) (subst AreSerialsBelow c.self.view_is c.self.invariant)

pub returns-clause-dismissed : goal.returns-clause-dismissed
returns-clause-dismissed g c = dismissal_takes c.args.self.now _ c.args.ticket c.take_from.result (called g c)

pub returns-clause-no_such_cell : goal.returns-clause-no_such_cell
returns-clause-no_such_cell g c = dismissal_finds c.args.self.now _ c.args.ticket c.take_from.result (called g c)

pub returns-clause-called : goal.returns-clause-called
returns-clause-called g c = called g c
