use Rattle.plan_revise.proofs.Downs.{no_part_comes}
use Rattle.plan_revise.proofs.laws.no_part_comes_to_a_machine_that_is_down.Goals as goal

pub returns : goal.returns
returns c = no_part_comes c.a_kept_run_is_one_of_the_other_plan.ensures
