use Rattle.std.proofs.Common.{sym}
use Rattle.plan_verifier.proofs.PathsAhead.{none_begins}
use Rattle.plan_verifier.proofs.chain_check.PathBoundsBounds.bound.Goals as goal

pub returns-then-not-is_ahead-clause-recorded : goal.returns-then-not-is_ahead-clause-recorded
returns-then-not-is_ahead-clause-recorded g c =
    let p = c.args.self.now.rest.cell.now.plan in
    let cell = c.args.self.now.rest.cell.now.cell in
    sym (none_begins p cell c.args.self.now.rest.present c.shaped-plan.ensures.well_shaped c.shaped-plan.ensures.sound c.args.node c.requires
    (λ ahead. (let is = c.is_ahead.ensures.1 ahead in let not = c.if-not-is_ahead.true in absurd cc)))
