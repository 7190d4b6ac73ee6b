use Rattle.std.proofs.Common.{inl}
use Rattle.command_answers.proofs.revises.parsed_revised.Goals as goal

pub returns-in-Ok : goal.returns-in-Ok
returns-in-Ok g c = inl (c.in-Ok.ensures.shaped.1, rw (← c.in-Ok.ensures.shaped.0) c.shaped_revised.ensures)
