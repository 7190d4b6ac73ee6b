use Rattle.std.proofs.Common.{Ok, refl}
use Rattle.command_answers.proofs.rest_improves.logged_answer.Goals as goal

pub returns-in-Ok : goal.returns-in-Ok
returns-in-Ok g c = record {
  came = Ok c.in-Ok.text.items;
  mid = c.text.new.self;
  is = c.in-Ok.ensures.asked;
  goes_on = (rw (← c.deref.ensures.value) c.found_answer-answer.ensures, refl);
}
