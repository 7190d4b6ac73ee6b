use Rattle.std.proofs.Common.{sym, subst}
use Rattle.plan_revise.specs.Fits.{IsFit}
use Rattle.plan_revise.proofs.PlacedParts.{with_job-fit}
use Rattle.plan_revise.proofs.draft.Draft.place_new.Goals as goal

pub place-requires-clause-fit : goal.place-requires-clause-fit
place-requires-clause-fit c = subst IsFit (sym c.in_ok-add_job.ensures) (with_job-fit c.args.self.now c.requires.fit c.requires.few)
