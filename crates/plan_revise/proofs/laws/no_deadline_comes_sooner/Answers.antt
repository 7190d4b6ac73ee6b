use Rattle.plan_revise.proofs.Sooner.{no_deadline_sooner}
use Rattle.plan_revise.proofs.laws.no_deadline_comes_sooner.Goals as goal

pub returns : goal.returns
returns c = no_deadline_sooner c.a_kept_run_is_one_of_the_other_plan.ensures
