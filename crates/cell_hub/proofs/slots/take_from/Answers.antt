use Rattle.std.proofs.Common.{sym, ◌∙◌}
use Rattle.cell_hub.proofs.Hubs.{takes_there, none_there, shows, shows_none}
use Rattle.cell_hub.proofs.slots.take_from.Goals as goal

pub returns-then-is_none-clause-none : goal.returns-then-is_none-clause-none
returns-then-is_none-clause-none g c next = sym (c.cell_in.ensures next) ∙ shows_none c.cell_in.result c.if-is_none.ensures

pub returns-in-None-clause-none : goal.returns-in-None-clause-none
returns-in-None-clause-none g c = none_there c.args.cells.now c.args.ticket c.in-None.ensures.value

pub returns-in-Some-clause-dismissed : goal.returns-in-Some-clause-dismissed
returns-in-Some-clause-dismissed g c =
    takes_there c.args.cells.now c.args.ticket c.try_remove.new.self c.in-Some.field-0 c.in-Some.ensures.value
    (λ none. shows c.cell_in.result c.if-is_none.ensures (c.cell_in.ensures 0 ∙ none)) c.in-Some.ensures.updates
