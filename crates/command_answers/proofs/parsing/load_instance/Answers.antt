use Rattle.std.proofs.Common.{rules, ap}
use Rattle.command_answers.specs.Instances.{instance_command_fault}
use Rattle.command_answers.proofs.Passing.{passed_memory, passed_instance}
use Rattle.command_answers.proofs.parsing.load_instance.Goals as goal

pub returns-in_err-read_from_collection-in-Some : goal.returns-in_err-read_from_collection-in-Some
returns-in_err-read_from_collection-in-Some c = record {
  found = search rules;
  only = λ description shop parses. (let in_section = rw c.in-Some.is at parses in
      passed_memory _ _ _ (ap instance_command_fault (c.in_err-read_from_collection-in-Some.ensures.only description shop in_section)) c.from_residual.ensures.1);
  fault = search rules;
  first = λ fault has. (let in_section = rw c.in-Some.is at has in
      passed_instance _ _ fault (c.in_err-read_from_collection-in-Some.ensures.first fault in_section) c.from_residual.ensures.1);
}

pub returns-in_err-read_instance-in-None : goal.returns-in_err-read_instance-in-None
returns-in_err-read_instance-in-None c = record {
  found = search rules;
  only = λ description shop parses. (let in_text = rw c.in-None.is at parses in
      passed_memory _ _ _ (ap instance_command_fault (c.in_err-read_instance-in-None.ensures.only description shop in_text)) c.from_residual-in_err-read_instance-in-None.ensures.1);
  fault = search rules;
  first = λ fault has. (let in_text = rw c.in-None.is at has in
      passed_instance _ _ fault (c.in_err-read_instance-in-None.ensures.first fault in_text) c.from_residual-in_err-read_instance-in-None.ensures.1);
}

pub returns-in_ok-read_instance-in-None : goal.returns-in_ok-read_instance-in-None
returns-in_ok-read_instance-in-None c = record {
  found = search rules;
  only = λ description shop parses. (let in_text = rw c.in-None.is at parses in c.in_ok-read_instance-in-None.ensures.only description shop in_text);
  fault = search rules;
  first = search rules;
}
