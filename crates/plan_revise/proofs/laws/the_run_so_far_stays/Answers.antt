use Rattle.plan_revise.proofs.Outcomes.{run_stays}
use Rattle.plan_revise.proofs.laws.the_run_so_far_stays.Goals as goal

pub returns : goal.returns
returns c = run_stays c.a_kept_run_is_one_of_the_other_plan.ensures
