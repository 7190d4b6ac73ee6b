use Rattle.plan_revise.proofs.Written.{plant_is_of}
use Rattle.plan_revise.proofs.revising.revise.Goals as goal

pub revise_within-requires : goal.revise_within-requires
revise_within-requires g c = plant_is_of c.args.rest.now.plan c.plant_of.result (rw c.shaped.ensures.plan at c.plant_of.ensures.plant)
