use Rattle.std.proofs.Common.{inl, refl}
use Rattle.command_answers.proofs.improves.better_answer.Goals as goal

pub returns-in-Some : goal.returns-in-Some
returns-in-Some g c = inl (c.in-Ok.ensures.shaped.1, rw (← c.in-Ok.ensures.shaped.0, ← c.run.view_is, c.in-Some.is) c.logged_answer.ensures)

pub returns-in-None : goal.returns-in-None
returns-in-None g c = rw (← c.run.view_is, c.in-None.is) (inl (c.in-Ok.ensures.shaped.1, (rw (← c.in-Ok.ensures.shaped.0) c.best_answer.ensures, refl)))
