use Rattle.std.proofs.Common.{None, Ok, refl}
use Rattle.command_answers.proofs.known_rests.whole_rest.Goals as goal

pub returns-in_ok-plan_rest-in-Ok-clause-asks : goal.returns-in_ok-plan_rest-in-Ok-clause-asks
returns-in_ok-plan_rest-in-Ok-clause-asks g c = λ at. record {
  came = Ok c.in-Ok.names;
  mid = c.names_of.new.texts;
  is = rw (← c.in-Ok.is) c.names_of.ensures;
  goes_on = (c.in_ok-plan_rest-in-Ok.ensures.found at, refl);
}

pub returns-in_ok-plan_rest-in-Ok-clause-plan : goal.returns-in_ok-plan_rest-in-Ok-clause-plan
returns-in_ok-plan_rest-in-Ok-clause-plan g c = (c.in_ok-plan_rest-in-Ok.ensures.found None).plan
