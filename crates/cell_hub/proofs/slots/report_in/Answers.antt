use Rattle.std.proofs.Common.{refl}
use Rattle.cell_hub.proofs.Hubs.{stands_there, another_there, none_there, holds_there, holds_nowhere, reports_there}
use Rattle.cell_hub.proofs.slots.report_in.Goals as goal

pub returns-else-placed-ticket-clause-refused : goal.returns-else-placed-ticket-clause-refused
returns-else-placed-ticket-clause-refused g c = another_there c.args.cells.now c.args.ticket c.in-Some.placed.now c.in-Some.ensures.value c.if-placed-ticket.false

pub returns-in_default-clause-refused : goal.returns-in_default-clause-refused
returns-in_default-clause-refused g c = none_there c.args.cells.now c.args.ticket c.in_default.ensures.value

pub returns-in-Ok-clause-reported : goal.returns-in-Ok-clause-reported
returns-in-Ok-clause-reported g c = reports_there c.args.cells.now c.args.ticket c.in-Some.placed.now c.args.report c.in-Ok.ack c.report.new.self c.in-Some.ensures.value c.if-placed-ticket.true c.in-Ok.ensures.answered

pub returns-in-Err-clause-refused : goal.returns-in-Err-clause-refused
returns-in-Err-clause-refused g c next = (c.in-Some.placed.now.controller, stands_there c.args.cells.now c.args.ticket c.in-Some.placed.now c.in-Some.ensures.value c.if-placed-ticket.true next, c.in-Err.ensures.first_reason)

pub returns-else-placed-ticket-clause-possible : goal.returns-else-placed-ticket-clause-possible
returns-else-placed-ticket-clause-possible g c next = holds_nowhere c.args.cells.now c.args.ticket _ next (returns-else-placed-ticket-clause-refused g c next)

pub returns-else-placed-ticket-clause-never_refused : goal.returns-else-placed-ticket-clause-never_refused
returns-else-placed-ticket-clause-never_refused g c next = holds_nowhere c.args.cells.now c.args.ticket _ next (returns-else-placed-ticket-clause-refused g c next)

pub returns-in_default-clause-possible : goal.returns-in_default-clause-possible
returns-in_default-clause-possible g c next = holds_nowhere c.args.cells.now c.args.ticket _ next (returns-in_default-clause-refused g c next)

pub returns-in_default-clause-never_refused : goal.returns-in_default-clause-never_refused
returns-in_default-clause-never_refused g c next = holds_nowhere c.args.cells.now c.args.ticket _ next (returns-in_default-clause-refused g c next)

pub returns-in-Ok-clause-possible : goal.returns-in-Ok-clause-possible
returns-in-Ok-clause-possible g c next = holds_there c.args.cells.now c.args.ticket _ c.in-Some.placed.now c.in-Some.ensures.value c.if-placed-ticket.true c.in-Ok.ensures.possible next

pub returns-in-Ok-clause-never_refused : goal.returns-in-Ok-clause-never_refused
returns-in-Ok-clause-never_refused g c next = holds_there c.args.cells.now c.args.ticket _ c.in-Some.placed.now c.in-Some.ensures.value c.if-placed-ticket.true (λ ends. refl) next

pub returns-in-Err-clause-possible : goal.returns-in-Err-clause-possible
returns-in-Err-clause-possible g c next = holds_there c.args.cells.now c.args.ticket _ c.in-Some.placed.now c.in-Some.ensures.value c.if-placed-ticket.true c.in-Err.ensures.possible next

pub returns-in-Err-clause-never_refused : goal.returns-in-Err-clause-never_refused
returns-in-Err-clause-never_refused g c next = holds_there c.args.cells.now c.args.ticket _ c.in-Some.placed.now c.in-Some.ensures.value c.if-placed-ticket.true (λ ends. c.in-Err.ensures.never_refused ends.due ends.going ends.now) next
