use Rattle.run_journal.proofs.PlansKept.{plan_kept}
use Rattle.run_journal.proofs.laws.a_crash_keeps_the_plan.Goals as goal

pub returns : goal.returns
returns c = plan_kept
