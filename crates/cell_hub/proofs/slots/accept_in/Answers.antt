use Rattle.cell_hub.proofs.Called.{accepts_there, not_empty, possible_in}
use Rattle.cell_hub.proofs.slots.accept_in.Goals as goal

pub accept-requires : goal.accept-requires
accept-requires g c = possible_in c.args.cells.now c.args.ticket c.args.possible c.requires c.in-Some.placed.now c.in-Some.ensures.value

pub unreachable-requires : goal.unreachable-requires
unreachable-requires g c = not_empty c.args.cells.now c.args.ticket c.args.possible c.requires c.in-None.ensures.value

pub returns : goal.returns
returns g c next = accepts_there c.args.cells.now c.args.ticket c.args.possible c.requires c.in-Some.placed.now c.accept.result c.accept.new.self c.in-Some.ensures.value c.accept.ensures.answered next
