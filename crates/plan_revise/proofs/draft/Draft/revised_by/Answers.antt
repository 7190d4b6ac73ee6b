use Rattle.plan_revise.proofs.Fitting.{fits_shaped}
use Rattle.plan_revise.proofs.draft.Draft.revised_by.Goals as goal

pub into_shaped-requires : goal.into_shaped-requires
into_shaped-requires g c = fits_shaped c.make_all.new.self c.in-Ok.ensures.revision.fit c.in-Ok.ensures.revision.some_step
