use Rattle.plan_revise.proofs.HeldAhead.{nobody_later_by_more}
use Rattle.plan_revise.proofs.laws.nobody_is_later_by_more_than_the_hold.Goals as goal

pub returns : goal.returns
returns c = nobody_later_by_more c.a_kept_run_is_one_of_the_other_plan.ensures
