use Rattle.std.proofs.Common.{subst, arith}
use Rattle.cell_hub.specs.{Hub.AreSerialsBelow}
use Rattle.cell_hub.proofs.{Lives.seated_serials, Called.is_seated}
use Rattle.cell_hub.proofs.hub.HubOf.seat.Goals as goal

pub returns-clause-seated : goal.returns-clause-seated
returns-clause-seated g c =
    is_seated c.self.inside.cells c.reserve_slot.new.cells c.insert_reserved-slot.new.self c.self.inside.next_serial c.args.self.now c.self.view_is c.insert_reserved-slot.result c.args.controller
    c.reserve_slot.ensures.kept c.insert_reserved-slot.ensures.was_vacant c.insert_reserved-slot.ensures.updates (omega arith)

pub invariant_of-self-2 : goal.invariant_of-self-2
invariant_of-self-2 g c =
    seated_serials c.args.self.now _ c.args.controller _ (returns-clause-seated g c) (subst AreSerialsBelow c.self.view_is c.self.invariant)
