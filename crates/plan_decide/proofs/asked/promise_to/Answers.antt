use Rattle.std.proofs.Common.{arith}
use Rattle.plan_decide.specs.Settings.{case_in}
use Rattle.plan_decide.proofs.Limits.{promise_past}
use Rattle.plan_decide.proofs.asked.promise_to.Goals as goal

pub returns-else-is_promised : goal.returns-else-is_promised
returns-else-is_promised g c = promise_past (case_in c.args.setting.now) c.args.job c.budget_for-budget.result c.budget_for-budget.ensures (omega (arith, c.if-is_promised.false))
