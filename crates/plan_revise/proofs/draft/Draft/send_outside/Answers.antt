use Rattle.std.proofs.Common.{sym, subst}
use Rattle.plan_revise.specs.Fits.{IsFit}
use Rattle.plan_revise.proofs.EndedParts.{ended-fit}
use Rattle.plan_revise.proofs.draft.Draft.send_outside.Goals as goal

pub place-requires-clause-fit : goal.place-requires-clause-fit
place-requires-clause-fit c = subst IsFit (sym c.end_behind.ensures) (ended-fit c.args.self.now c.args.job c.requires.fit c.requires.job 0)
