use Rattle.plan_revise.proofs.StillAccepted.{still_accepted}
use Rattle.plan_revise.proofs.laws.accepted_rests_stay_accepted.Goals as goal

pub returns : goal.returns
returns c = still_accepted c.a_kept_run_is_one_of_the_other_plan.ensures
