use Rattle.std.proofs.Common.{Ok}
use Rattle.command_answers.proofs.revises.revise_answer.Goals as goal

pub returns : goal.returns
returns g c = record {
  came = Ok c.in_ok-named.named;
  mid = c.instance.new.texts;
  is = rw (← c.inputs.view_is, ← c.in_ok-named.was) c.instance.ensures;
  goes_on = record {
    came = Ok c.in_ok-plan.plan;
    mid = c.plan.new.texts;
    is = rw (← c.inputs.view_is, ← c.in_ok-plan.was) c.plan.ensures;
    goes_on = rw (← c.deref.ensures.value) c.parsed_revised.ensures;
  };
}
