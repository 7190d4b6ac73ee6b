use Rattle.std.proofs.Common.{arith}
use Rattle.std.proofs.lemmas.Grind.{common_steps}
use Rattle.command_answers.proofs.bound_lines.put_budget.Goals as goal

pub returns-then-budget-bound-clause-written : goal.returns-then-budget-bound-clause-written
returns-then-budget-bound-clause-written c = grind (arith, common_steps)
