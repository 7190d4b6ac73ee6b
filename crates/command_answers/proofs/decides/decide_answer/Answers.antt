use Rattle.std.proofs.Common.{Ok}
use Rattle.command_answers.proofs.decides.decide_answer.Goals as goal

pub returns : goal.returns
returns g c = record {
  came = Ok c.in_ok-parsed.parsed;
  mid = c.read_inputs.new.texts;
  is = rw (← c.in_ok-parsed.was, ← c.run.view_is) c.read_inputs.ensures;
  goes_on = c.parsed_decided.ensures;
}
