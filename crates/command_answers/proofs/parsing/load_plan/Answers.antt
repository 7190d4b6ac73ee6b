use Rattle.std.proofs.Common.{rules, ap}
use Rattle.command_answers.specs.Plans.{plan_command_fault}
use Rattle.command_answers.proofs.Passing.{passed_memory, passed_plan}
use Rattle.command_answers.proofs.parsing.load_plan.Goals as goal

pub returns-in_err-read_plan : goal.returns-in_err-read_plan
returns-in_err-read_plan c = record {
  found = search rules;
  only = λ plan is. passed_memory _ _ _ (ap plan_command_fault (c.in_err-read_plan.ensures.only plan is)) c.from_residual.ensures.1;
  fault = search rules;
  first = λ fault is. passed_plan _ _ fault (c.in_err-read_plan.ensures.first fault is) c.from_residual.ensures.1;
}
