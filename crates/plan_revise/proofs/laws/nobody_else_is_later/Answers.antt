use Rattle.plan_revise.proofs.Outcomes.{nobody_later}
use Rattle.plan_revise.proofs.laws.nobody_else_is_later.Goals as goal

pub returns : goal.returns
returns c = nobody_later c.a_kept_run_is_one_of_the_other_plan.ensures
