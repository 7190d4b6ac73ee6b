use Rattle.plan_revise.proofs.HeldAhead.{held_machine}
use Rattle.plan_revise.proofs.laws.a_held_machine_holds_up_its_next_entry.Goals as goal

pub returns : goal.returns
returns c = held_machine c.a_kept_run_is_one_of_the_other_plan.ensures
