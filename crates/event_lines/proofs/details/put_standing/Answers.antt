use Rattle.event_lines.proofs.details.put_standing.Goals as goal

pub returns-in-Awaited-clause-written : goal.returns-in-Awaited-clause-written
returns-in-Awaited-clause-written g c = rw (c.in-Awaited.is, c.put_named.ensures.written, c.put_number.ensures.written)

pub returns-in-Outside-clause-written : goal.returns-in-Outside-clause-written
returns-in-Outside-clause-written g c = rw (c.in-Outside.is, c.put_named-in-Outside.ensures.written, c.put_target.ensures.written)

pub returns-in-Done-clause-written : goal.returns-in-Done-clause-written
returns-in-Done-clause-written g c = rw (c.in-Done.is, c.put_on-in-Done.ensures.written, c.put_target-in-Done.ensures.written)
