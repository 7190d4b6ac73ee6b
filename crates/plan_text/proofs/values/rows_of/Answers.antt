use Rattle.std.proofs.Common.{arith}
use Rattle.std.proofs.lemmas.Grind.{common_steps}
use Rattle.plan_text.proofs.values.rows_of.Goals as goal

pub loop-row-preserved : goal.loop-row-preserved
loop-row-preserved c = grind (arith, common_steps)

pub returns-in_err-jobs-clause-faults : goal.returns-in_err-jobs-clause-faults
returns-in_err-jobs-clause-faults c = grind (arith, common_steps)

pub returns-clause-faults : goal.returns-clause-faults
returns-clause-faults c = grind (arith, common_steps)

pub returns-clause-value : goal.returns-clause-value
returns-clause-value c = grind (arith, common_steps)
