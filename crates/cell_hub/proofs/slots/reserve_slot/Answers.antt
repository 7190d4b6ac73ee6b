use Rattle.cell_hub.proofs.slots.reserve_slot.Goals as goal

pub returns-clause-no_more : goal.returns-clause-no_more
returns-clause-no_more g c room = (c.reserve.ensures.succeeds room, c.reserve.ensures.had_room room)
